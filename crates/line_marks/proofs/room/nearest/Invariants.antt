use Rattle.line_marks.proofs.Prelude.{◌<◌, ◌≤◌, length}
use Rattle.line_marks.proofs.room.nearest.Given as goal

-- it is one of the stretches after the first
abbrev pub invariant-loop-k : goal.invariant-loop-k
invariant-loop-k l = (1 ≤ l.nearest) × (l.nearest < length l.stretches)
