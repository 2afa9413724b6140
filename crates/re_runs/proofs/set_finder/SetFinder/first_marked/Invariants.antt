use Rattle.re_runs.proofs.Prelude.{◌+◌, Marks, members_of, RunStandsAt}
use Rattle.re_runs.proofs.set_finder.SetFinder.first_marked.Given as goal

abbrev pub invariant-marks : goal.invariant-marks
invariant-marks l = Marks (RunStandsAt l.line (members_of l.self)) l.start (l.start + 32) l.left

abbrev pub decreases-marks : goal.decreases-marks
decreases-marks l = l.left
