use Rattle.re_needle.proofs.Prelude.{members, AddsTurns}
use Rattle.re_needle.proofs.outline.add_turns.Given as goal

abbrev pub invariant-turns : goal.invariant-turns
invariant-turns l = AddsTurns l.fn.marks.items (members l.set) l._turn l.marks.items
