-- Expressions that can replace others: they hold on the same stretches, as the one choice of
-- several expressions does for these.
use Rattle.std.specs.Prelude.{◌≡◌, ℕ, ◌≤◌, ◌↔◌, List, Option, length, Any, Result}
use Rattle.re_syntax.specs.{Bytes.Text, Holds.Holds, Expression.Expression}
use Rattle.grep_core.specs.declared.status.{RunFault.RunFault, Status.Status}
use Rattle.grep_core.specs.{declared.options.Options.Options, Run.{Devices, RunGives}}
use Rattle.grep_io.specs.Reading.{Source}

-- some expression of the first list holds on a stretch where some of the second does
abbrev pub IsSameChoice : List Expression → List Expression → Type 0
IsSameChoice ds es =
    (line : Text) (i j : ℕ) → Any (λ d. Holds line d i j) ds ↔ Any (λ e. Holds line e i j) es

-- a run for expressions that are the same choice as others, and no more, is a run for these
abbrev pub ServesForOthers : Options → Type 0
ServesForOthers options = (ds es : List Expression) → IsSameChoice ds es → length ds ≤ length es
    → (sources : List Source) (left : List (Option Text)) (old new : Devices)
    (result : Result Status RunFault)
    → RunGives ds options sources (λ given. given ≡ left) old new result →
    RunGives es options sources (λ given. given ≡ left) old new result
