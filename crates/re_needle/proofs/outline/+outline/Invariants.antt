use Rattle.re_needle.proofs.Prelude.{map, take, alt, cat, expression_of, members, AddsOutline, BeginsWith}
use Rattle.re_needle.proofs.outline.+outline.Given as goal

abbrev pub invariant-add_all-parts : goal.invariant-add_all-parts
invariant-add_all-parts l = AddsOutline l.fn.marks.items (cat (map expression_of (take l.i l.parts))) l.marks.items

abbrev pub invariant-add_choice-parts : goal.invariant-add_choice-parts
invariant-add_choice-parts l = BeginsWith (map members l.front.items) (alt (map expression_of (take l.i l.parts)))
