use Rattle.line_finds.proofs.{Prelude.{◌∙◌, ◌+◌, ◌-◌, ◌++◌, ap, arith, length, map, sym}, lemmas.PieceLemmas.{are_of, are_lists, are_joined, begins_in_order, begins_within, many_starts, seen_as, holds}}
use Rattle.line_finds.proofs.pieces.Pieces.add_part.Goals as goal

pub part-requires-clause-in_order : goal.part-requires-clause-in_order
part-requires-clause-in_order g c = omega (arith, begins_in_order c.args.other.now c.args.from c.args.to c.requires.in_order)

pub part-requires-clause-within : goal.part-requires-clause-within
part-requires-clause-within g c =
    let more = are_of c.other.view_is c.other.invariant in
    omega (arith, ap length (c.deref.ensures.value ∙ more.items_are), begins_within c.args.other.now c.args.to)

pub part-starts-requires-clause-within : goal.part-starts-requires-clause-within
part-starts-requires-clause-within g c = omega (arith, ap length c.deref-2.ensures.value, many_starts (are_of c.other.view_is c.other.invariant))

pub invariant_of-self-else-is_err : goal.invariant_of-self-else-is_err
invariant_of-self-else-is_err g c = are_lists (are_joined (are_of c.self.view_is c.self.invariant) (are_of c.other.view_is c.other.invariant) c.args.from c.args.to _ _ c.len-before.result c.requires.in_order c.start-start.ensures.start c.start-end.ensures.start (c.len-before.ensures ∙ c.self.inside.items.ok.0) (c.in_ok-extend_from_slice.ensures.items ∙ ap (λ some. c.self.inside.items.items ++ some) (cc (c.part.ensures, c.deref.ensures.value))) (holds c.add_starts.result (sym c.if-is_err.ensures.value) c.add_starts.ensures.ok ∙ ap (λ some. c.self.inside.starts.items ++ map (λ p. p - c.start-start.result + c.len-before.result) some) (cc (c.part-starts.ensures, c.deref-2.ensures.value))))

pub returns-clause-ok : goal.returns-clause-ok
returns-clause-ok g c = seen_as (are_joined (are_of c.self.view_is c.self.invariant) (are_of c.other.view_is c.other.invariant) c.args.from c.args.to _ _ c.len-before.result c.requires.in_order c.start-start.ensures.start c.start-end.ensures.start (c.len-before.ensures ∙ c.self.inside.items.ok.0) (c.in_ok-extend_from_slice.ensures.items ∙ ap (λ some. c.self.inside.items.items ++ some) (cc (c.part.ensures, c.deref.ensures.value))) (holds c.add_starts.result (sym c.if-is_err.ensures.value) c.add_starts.ensures.ok ∙ ap (λ some. c.self.inside.starts.items ++ map (λ p. p - c.start-start.result + c.len-before.result) some) (cc (c.part-starts.ensures, c.deref-2.ensures.value))))
