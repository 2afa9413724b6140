use Rattle.re_needle.proofs.Prelude.{◌≡◌, ◌++◌, drop, map, Some, members, shown}
use Rattle.re_needle.proofs.leading_sets.leading_sets.Given as goal

abbrev pub invariant-marks : goal.invariant-marks
invariant-marks l = map shown l.marks ≡ map Some (map members l.sets.items) ++ map shown (drop l.mark-index l.marks)
