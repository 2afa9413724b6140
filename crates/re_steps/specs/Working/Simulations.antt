-- Matchers that step sets of positions over a line, and what is known on the way.
use Rattle.std.specs.Prelude.{ℕ, ◌<◌}
use Rattle.re_trees.specs.{Bytes.Text, Expression.Expression, Holds.Holds}
use Rattle.re_auto.specs.Working.{SteppedSets.MayBegin, StateSets.IsMadeFor, Positions.is_begin}
use Rattle.re_auto.specs.declared.mode.Mode.{Mode, TheVariants.Search}
use Rattle.re_steps.specs.declared.sets.SetPair.{SetPair}

-- both sets were made for the automaton of this expression
abbrev pub AreSetsFor : Expression → SetPair → Type 0
AreSetsFor e pair = IsMadeFor e pair.current × IsMadeFor e pair.spare

-- some stretch of the mode that ends at place j is matched
abbrev pub EndsAt : Expression → Mode → Text → ℕ → Type 0
EndsAt e mode line j = (i : ℕ) × MayBegin mode (is_begin i) × Holds line e i j

-- no matched stretch ends before place j
unfoldable pub NoneEndsBefore : Expression → Text → ℕ → Type 0
NoneEndsBefore e line j = (k : ℕ) → k < j → ¬ EndsAt e Search line k
