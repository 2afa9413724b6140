use Rattle.re_runs.proofs.Prelude.{◌≤◌, ◌-◌, length, Nowhere, OccursAt}
use Rattle.re_runs.proofs.text_finder.first_place.Given as goal

abbrev pub invariant-vectors : goal.invariant-vectors
invariant-vectors l = (l.start ≤ length l.line) × Nowhere (OccursAt l.line l.fn.finder) 0 l.start

abbrev pub decreases-vectors : goal.decreases-vectors
decreases-vectors l = length l.line - l.start
