use Rattle.grep_live.proofs.lemmas.StatusLemmas.{FirstBare}
use Rattle.grep_live.proofs.status.any_hit.Given as goal

abbrev pub invariant-loop-k : goal.invariant-loop-k
invariant-loop-k l = FirstBare l.session.inputs l.k
