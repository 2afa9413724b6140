use Rattle.re_needle.proofs.Prelude.{map, take, members, AddsSets}
use Rattle.re_needle.proofs.outline.add_sets.Given as goal

abbrev pub invariant-sets : goal.invariant-sets
invariant-sets l = AddsSets l.fn.marks.items (map members (take l.k l.sets)) l.marks.items
