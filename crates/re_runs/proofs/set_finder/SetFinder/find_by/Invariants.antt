use Rattle.re_runs.proofs.Prelude.{◌-◌, ◌≤◌, Nowhere, members_of, RunStandsAt}
use Rattle.re_runs.proofs.set_finder.SetFinder.find_by.Given as goal

abbrev pub invariant-runs : goal.invariant-runs
invariant-runs g l = (l.start ≤ l.end) × Nowhere (RunStandsAt l.line (members_of l.self)) 0 l.start

abbrev pub decreases-runs : goal.decreases-runs
decreases-runs g l = l.end - l.start
