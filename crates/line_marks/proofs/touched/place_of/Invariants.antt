use Rattle.line_marks.proofs.Prelude.{take, Passes}
use Rattle.line_marks.proofs.touched.place_of.Given as goal

-- the first stretches end before the line
abbrev pub invariant-loop-many : goal.invariant-loop-many
invariant-loop-many l = Passes (take l.many l.stretches) l.line l.rest
