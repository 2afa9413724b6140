use Rattle.line_finds.proofs.{Prelude.{◌≡◌, ◌∙◌, ◌++◌, ap, arith, drop, drop_min, length, min, take, take_min}, lemmas.PieceLemmas.{are_of, many_starts, begins_in_order, begins_within, are_without, are_lists, seen_as}}
use Rattle.line_finds.proofs.pieces.Pieces.remove.Goals as goal

pub drain-requires-clause-start_le_end : goal.drain-requires-clause-start_le_end
drain-requires-clause-start_le_end g c = omega (arith, begins_in_order c.args.self.now c.min-from.result c.min-to.result (omega (arith, c.requires, c.min-from.ensures, c.min-to.ensures)))

pub drain-requires-clause-in_bounds : goal.drain-requires-clause-in_bounds
drain-requires-clause-in_bounds g c =
    let are = are_of c.self.view_is c.self.invariant in
    omega (arith, ap length are.items_are, begins_within c.args.self.now c.min-to.result)

pub overflow_sub-end : goal.overflow_sub-end
overflow_sub-end g c = omega (arith, begins_in_order c.args.self.now c.min-from.result c.min-to.result (omega (arith, c.requires, c.min-from.ensures, c.min-to.ensures)))

pub remove_starts-requires-clause-within : goal.remove_starts-requires-clause-within
remove_starts-requires-clause-within g c = omega (arith, many_starts (are_of c.self.view_is c.self.invariant))

pub invariant_of-self : goal.invariant_of-self
invariant_of-self g c = are_lists (are_without (are_of c.self.view_is c.self.invariant) c.min-from.result c.min-to.result (omega arith) c.start-start.ensures.start c.start-end.ensures.start (c.drop-drain.ensures.items ∙ c.drain.ensures.kept) c.remove_starts.ensures)

pub returns : goal.returns
returns g c =
    let lists = c.args.self.now in
    let from : c.min-from.result ≡ min c.args.from (length lists) = cc (c.min-from.ensures, c.len-count.ensures) in
    let to : c.min-to.result ≡ min c.args.to (length lists) = cc (c.min-to.ensures, c.len-count.ensures) in
    seen_as (are_without (are_of c.self.view_is c.self.invariant) c.min-from.result c.min-to.result (omega arith) c.start-start.ensures.start c.start-end.ensures.start (c.drop-drain.ensures.items ∙ c.drain.ensures.kept) c.remove_starts.ensures) ∙ (λ j. take (from j) lists ++ drop (to j) lists) ∙ (λ j. take_min c.args.from lists j ++ drop_min c.args.to lists j)
