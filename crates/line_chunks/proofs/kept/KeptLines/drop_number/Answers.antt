use Rattle.line_chunks.proofs.{Prelude.{arith, ap, length, all_of, line_without, chunks_of}, lemmas.Columns.{lines_mapped, mapped_filled}}
use Rattle.line_chunks.proofs.kept.KeptLines.drop_number.Goals as goal

pub sum_from-requires-clause-few : goal.sum_from-requires-clause-few
sum_from-requires-clause-few g c =
    let now = ap (λ cs. length (all_of cs)) c.drop_in_all.ensures in
    let same = lines_mapped (chunks_of c.self.inside.entries.items) (line_without c.args.p) in
    let all = ap (λ cs. length (all_of cs)) c.self.view_is in
    omega arith

pub invariant_of-self : goal.invariant_of-self
invariant_of-self g c = (c.sum_from.ensures.summed, rw (c.sum_from.ensures.chunks, c.drop_in_all.ensures) (mapped_filled _ _ c.self.invariant.1))
