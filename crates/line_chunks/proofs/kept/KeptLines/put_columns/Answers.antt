use Rattle.line_chunks.proofs.{Prelude.{arith, ap, length, into_iter_items, all_of, chunks_of}, lemmas.Columns.{columns_filled, lines_with_columns}}
use Rattle.line_chunks.proofs.kept.KeptLines.put_columns.Goals as goal

pub sum_from-requires-clause-few : goal.sum_from-requires-clause-few
sum_from-requires-clause-few g c =
    let now = ap (λ cs. length (all_of cs)) c.put_all.ensures.chunks in
    let same = lines_with_columns (chunks_of c.self.inside.entries.items) (into_iter_items c.args.found.now) in
    let all = ap (λ cs. length (all_of cs)) c.self.view_is in
    omega arith

pub invariant_of-self : goal.invariant_of-self
invariant_of-self g c = (c.sum_from.ensures.summed, rw (c.sum_from.ensures.chunks, c.put_all.ensures.chunks) (columns_filled _ _ c.self.invariant.1))
