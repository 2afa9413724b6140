use Rattle.re_needle.proofs.Prelude.{◌≡◌, ◌++◌, drop, map, Some, only, shown}
use Rattle.re_needle.proofs.needle.leading_bytes.Given as goal

abbrev pub invariant-marks : goal.invariant-marks
invariant-marks l = map shown l.marks ≡ map Some (map only l.bytes.items) ++ map shown (drop l.mark-index l.marks)
