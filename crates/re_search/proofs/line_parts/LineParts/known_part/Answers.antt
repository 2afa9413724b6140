use Rattle.re_search.proofs.Prelude.{subst, arith, Text, Sought, LineEnds, ArePartsOf, FindsBefore}
use Rattle.re_search.proofs.line_parts.LineParts.known_part.Goals as goal

pub part_from-requires : goal.part_from-requires
part_from-requires c = rw c.deref.ensures.value (omega (arith, c.self.invariant.2, c.self.invariant.3))

pub returns : goal.returns
returns c = subst (λ (parts : LineEnds). (sought : Sought) (line : Text) → ArePartsOf sought line c.args.from parts → FindsBefore sought line c.args.from parts.seen c.part_from.result) c.self.view_is
    (λ sought line are. c.part_from.ensures sought line c.self.inside.seen (rw c.deref.ensures.value c.self.invariant.2) (rw c.deref.ensures.value are.are_ends))
