use Rattle.line_finds.proofs.Prelude.{◌≡◌, drop, length, marked}
use Rattle.line_finds.proofs.matches.set_marks.Given as goal

-- the marks of the pairs that are left are still to be set
abbrev pub invariant-loop-pair : goal.invariant-loop-pair
invariant-loop-pair l = (marked (drop l.pair-index l.fn.pairs) l.marks ≡ marked l.fn.pairs l.fn.marks) × (length l.marks ≡ length l.fn.marks)
