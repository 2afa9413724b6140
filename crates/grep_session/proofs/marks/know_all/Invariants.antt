use Rattle.grep_session.proofs.{Prelude.{◌≡◌, Marked, whole_mark}, lemmas.LostLemmas.mapped_to}
use Rattle.grep_session.proofs.marks.know_all.Given as goal

-- the first are whole, and the others are as they were
abbrev pub invariant-loop-mark : goal.invariant-loop-mark
invariant-loop-mark l = l.mark-items ≡ mapped_to (λ (mark : Marked). whole_mark mark.lines) l.fn.marks.items l.mark-index
