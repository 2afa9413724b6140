use Rattle.re_ends.proofs.lemmas.ListLaws.{AreJoined}
use Rattle.re_ends.proofs.list.join_runs.Given as goal

abbrev pub invariant-runs : goal.invariant-runs
invariant-runs l = AreJoined l.runs l.fn.buffer l.buffer l.base l.at l.k

abbrev pub decreases-runs : goal.decreases-runs
decreases-runs l = l.k
