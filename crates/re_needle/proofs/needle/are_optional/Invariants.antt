use Rattle.re_needle.proofs.Prelude.{All, take, IsOptional}
use Rattle.re_needle.proofs.needle.are_optional.Given as goal

abbrev pub invariant-marks : goal.invariant-marks
invariant-marks l = All IsOptional (take l.place l.marks)
