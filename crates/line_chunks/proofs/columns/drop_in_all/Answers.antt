use Rattle.line_chunks.proofs.{Prelude.{arith, ◌∙◌, sym, map, length-set, line_without, chunks_of}, lemmas.{Columns.chunks_mapped, Sums.length-chunks_of}}
use Rattle.line_chunks.proofs.columns.drop_in_all.Goals as goal

pub loop-k-preserved : goal.loop-k-preserved
loop-k-preserved c =
    let es = c.loop-k.entries.items in
    record {
      many = length-set es c.loop-k.k c.drop_from.new.entry ∙ c.loop-k.invariant.many;
      chunks = chunks_mapped es (chunks_of c.args.entries.now.items) c.loop-k.k _ c.drop_from.new.entry (map (line_without c.args.p)) (omega arith) c.index_mut.ensures.value (c.loop-k.invariant.many ∙ sym (length-chunks_of c.args.entries.now.items)) c.loop-k.invariant.chunks c.drop_from.ensures;
    }
