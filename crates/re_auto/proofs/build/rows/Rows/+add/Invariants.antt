use Rattle.re_auto.proofs.Prelude.{map, drop, ◌≤◌, length, alt, cat, expression_of, AreTurns, AreUpTo, IsAddedOf}
use Rattle.re_auto.proofs.build.rows.Rows.+add.Given as goal

abbrev pub invariant-add_sequence-members : goal.invariant-add_sequence-members
invariant-add_sequence-members l = record { within : l.left ≤ length l.members; added : IsAddedOf (cat (map expression_of (drop l.left l.members))) l.beyond l.fn.self l.self l.rest.value }

abbrev pub decreases-add_sequence-members : goal.decreases-add_sequence-members
decreases-add_sequence-members l = l.left

abbrev pub invariant-add_choice-branches : goal.invariant-add_choice-branches
invariant-add_choice-branches l = record { within : l.left ≤ length l.branches; added : IsAddedOf (alt (map expression_of (drop l.left l.branches))) l.beyond l.fn.self l.self l.rest.value }

abbrev pub decreases-add_choice-branches : goal.decreases-add_choice-branches
decreases-add_choice-branches l = l.left

abbrev pub invariant-add_turns-turns : goal.invariant-add_turns-turns
invariant-add_turns-turns l = AreTurns (expression_of l.part) l._turn l.fn.tail l.beyond l.fn.self l.self l.rest.value

abbrev pub invariant-add_up_to-turns : goal.invariant-add_up_to-turns
invariant-add_up_to-turns l = AreUpTo (expression_of l.part) l._turn l.beyond l.fn.self l.self l.rest.value
