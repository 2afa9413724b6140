use Rattle.re_auto.proofs.Prelude.{◌+◌, ◌≡◌, map, min, take, cat, expression_of, positions, most_positions}
use Rattle.re_auto.proofs.build.count.+count.Given as goal

abbrev pub invariant-count_all-members : goal.invariant-count_all-members
invariant-count_all-members l = l.count ≡ min (positions (cat (map expression_of (take l.i l.members)))) (most_positions + 1)
