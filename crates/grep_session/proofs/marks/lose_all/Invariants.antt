use Rattle.grep_session.proofs.{Prelude.{◌≡◌, lost}, lemmas.LostLemmas.mapped_to}
use Rattle.grep_session.proofs.marks.lose_all.Given as goal

-- the first are lost, and the others are as they were
abbrev pub invariant-loop-mark : goal.invariant-loop-mark
invariant-loop-mark l = l.mark-items ≡ mapped_to lost l.fn.marks.items l.mark-index
