use Rattle.re_needle.proofs.Prelude.{take, AreRunsOf, branches_within}
use Rattle.re_needle.proofs.choice_needle.branch_runs.Given as goal

abbrev pub invariant-branches : goal.invariant-branches
invariant-branches l = AreRunsOf (branches_within l.before (take l.place l.branches) l.after) l.found
