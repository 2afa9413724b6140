-- What several matchers search for together, and what they find in a block of whole lines.
use Rattle.std.specs.Prelude.{ℕ, Bool, List, Option}
use Rattle.re_syntax.specs.{Bytes.Text, Expression.Expression}
use Rattle.{re_trees.specs.declared.span.Span.Span, re_auto.specs.Searches.SomeMatches}
use Rattle.re_runs.specs.Working.Blocks.{PassesAll, FindsNext, HoldsOfMany}
use Rattle.re_search.specs.{declared.matcher.Matcher.Matcher, Working.Matchers.expressions_of}

-- the expressions, and whether the whole line has to be matched
pub record Sought : Type 0 where
  pub expressions : List Expression
  pub whole : Bool

-- what matchers search for that all give this answer to whether the whole line has to be matched
abbrev pub sought_of : Bool → List Matcher → Sought
sought_of whole matchers = record { expressions = expressions_of matchers; whole = whole }

abbrev pub IsSought : Sought → Text → Type 0
IsSought sought line = SomeMatches sought.expressions line sought.whole

-- the first `count` bytes are whole lines, none of which any of the expressions matches
abbrev pub PassesUnsought : Sought → Text → ℕ → Type 0
PassesUnsought sought block count = PassesAll (λ line. ¬ IsSought sought line) block count

-- the place of the first line that some expression matches; None says that there is none
abbrev pub FindsSought : Sought → List Text → Option Span → Type 0
FindsSought sought lines found = FindsNext (IsSought sought) lines found

-- `count` of the lines are matched by some expression
abbrev pub CountsSought : Sought → List Text → ℕ → Type 0
CountsSought sought lines count = HoldsOfMany (IsSought sought) lines count
