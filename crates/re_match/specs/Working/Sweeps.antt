-- Looks over lines and blocks: what they pass, where a sweep stops, and what is known of the line
-- there.
use Rattle.std.specs.Prelude.{max, None, ℕ, min, ◌≤◌, ◌↔◌, ◌⊎◌, slice_range, Bool, ◌-◌, Option}
use Rattle.std.specs.Prelude.{length, ⊤, ◌≡◌, ◌+◌, IsTrue}
use Rattle.re_trees.specs.{Holds.Matches, Expression.Expression, Bytes.Text}
use Rattle.re_meter.specs.Meters.{AddsBetween, Steps, many_passed}
use Rattle.re_runs.specs.Working.{Runs.{Runs, FindsRun, longest_of, look_cost}, Blocks.IsLineFrom}
use Rattle.re_needle.specs.Working.Needles.{RunBegins, RunIsNeeded}
use Rattle.re_match.specs.declared.sweeps.Stop.{Stop, TheVariants.{Seen, Unseen, Decided}}
use Rattle.re_match.specs.declared.sweeps.Sweep.{Sweep}

-- how many bytes of a line may still be passed
abbrev pub left_for : Stop → ℕ → ℕ
left_for Unseen most = most
left_for Seen most = 0
left_for (Decided answer) most = 0

-- how many steps it may still take
abbrev pub steps_left : Stop → ℕ → ℕ
steps_left Unseen most = most
steps_left Seen most = most
steps_left (Decided answer) most = 0

-- how many steps a sweep may have taken that stops so
abbrev pub steps_to : Stop → ℕ → ℕ → ℕ
steps_to Unseen start reached = start
steps_to Seen start reached = start
steps_to (Decided answer) start reached = max start reached

-- each byte of the lines that a sweep passed is a step, and none that it looked over is passed twice
abbrev pub CountsSweep : Sweep → Steps → Steps → Type 0
CountsSweep sweep old new =
    AddsBetween sweep.start (steps_to sweep.stop sweep.start sweep.reached) sweep.reached old new

-- what is said of whether a line is matched is right
abbrev pub Says : Stop → Type 0 → Type 0
Says Unseen matched = ⊤
Says Seen matched = ⊤
Says (Decided answer) matched = IsTrue answer ↔ matched

-- a sweep stopped in the line that ends here: no byte up to the end of its newline is passed twice; what
-- is left of it from its first place on is matched exactly if the line is; and what is said of it is right
pub record StopsIn (e : Expression) (whole : Bool) (block : Text) (sweep : Sweep) (end : ℕ) : Type 0 where
  pub high : sweep.first ≤ end
  pub near : sweep.reached + left_for sweep.stop (end + 1 - sweep.start) ≤ end + 1
  pub same : Matches e (slice_range block sweep.first end) whole
      ↔ Matches e (slice_range block sweep.start end) whole
  pub right : Says sweep.stop (Matches e (slice_range block sweep.start end) whole)

pub record StopsAt (e : Expression) (whole : Bool) (block : Text) (sweep : Sweep) : Type 0 where
  pub within : sweep.reached ≤ length block
  pub low : sweep.start ≤ sweep.first
  pub line : (end : ℕ) → IsLineFrom block sweep.start end → StopsIn e whole block sweep end

-- ---- looks over a line

-- runs that the expression needs were looked for, from the line's first byte on
pub record LooksForNeeded (e : Expression) (line : Text) (old new : Steps) : Type 0 where
  pub runs : Runs
  pub needed : RunIsNeeded runs e
  pub found : Option ℕ
  pub finds : FindsRun line runs found
  pub passed : new ≡ many_passed (look_cost line found) old

-- the line's beginning was compared with runs, with one of which each match begins
pub record LooksAtFirst (e : Expression) (line : Text) (old new : Steps) : Type 0 where
  pub runs : Runs
  pub begins : RunBegins runs e
  pub passed : new ≡ many_passed (min (longest_of runs) (length line)) old

-- the line was looked over once, or not at all if nothing is said of it
abbrev pub LooksOver : Expression → Text → Option Bool → Steps → Steps → Type 0
LooksOver e line said old new =
    ((said ≡ None) × (new ≡ old)) ⊎ (LooksForNeeded e line old new ⊎ LooksAtFirst e line old new)
