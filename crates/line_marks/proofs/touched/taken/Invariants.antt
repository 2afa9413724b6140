use Rattle.line_marks.proofs.Prelude.{◌≡◌, Takes}
use Rattle.line_marks.proofs.touched.taken.Given as goal

-- the first stretches are taken
abbrev pub invariant-loop-k : goal.invariant-loop-k
invariant-loop-k l = (l.all.many ≡ l.k) × Takes l.start l.end l.start l.stretches l.all
