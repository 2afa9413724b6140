use Rattle.line_finds.proofs.Prelude.{◌≡◌, drop, length, marked_of}
use Rattle.line_finds.proofs.matches.set_marks_of.Given as goal

-- the marks of the pairs that are left are still to be set
abbrev pub invariant-loop-pair : goal.invariant-loop-pair
invariant-loop-pair l = (marked_of l.first l.count (drop l.pair-index l.fn.pairs) l.marks ≡ marked_of l.first l.count l.fn.pairs l.fn.marks) × (length l.marks ≡ length l.fn.marks)
