use Rattle.re_runs.proofs.Prelude.{◌+◌, Marks, OccursAt}
use Rattle.re_runs.proofs.text_finder.near_place.Given as goal

abbrev pub invariant-marks : goal.invariant-marks
invariant-marks l = Marks (OccursAt l.line l.text) l.start (l.start + 32) l.left

abbrev pub decreases-marks : goal.decreases-marks
decreases-marks l = l.left
