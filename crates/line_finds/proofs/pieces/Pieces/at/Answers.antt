use Rattle.line_finds.proofs.{Prelude.{◌+◌, ◌∙◌, ap, arith, length}, lemmas.PieceLemmas.{are_of, begins_in_order, begins_within, list_between}}
use Rattle.line_finds.proofs.pieces.Pieces.at.Goals as goal

pub part-requires-clause-in_order : goal.part-requires-clause-in_order
part-requires-clause-in_order g c = omega (arith, begins_in_order c.args.self.now c.args.k (c.args.k + 1) (omega arith))

pub part-requires-clause-within : goal.part-requires-clause-within
part-requires-clause-within g c =
    let are = are_of c.self.view_is c.self.invariant in
    omega (arith, ap length (c.deref.ensures.value ∙ are.items_are), begins_within c.args.self.now (c.args.k + 1))

pub returns : goal.returns
returns g c =
    let are = are_of c.self.view_is c.self.invariant in
    c.part.ensures ∙ list_between c.args.self.now c.args.k (omega arith) (c.deref.ensures.value ∙ are.items_are) c.start.ensures.start c.start-2.ensures.start
