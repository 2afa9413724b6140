use Rattle.line_chunks.proofs.{Prelude.{arith, ◌∙◌, refl, sym, add-one, length-set, into_iter_items, chunks_of}, lemmas.{Columns.{columns_none, columns_all, drop_drop, next_fits, next_put}, Sums.length-chunks_of}}
use Rattle.line_chunks.proofs.columns.put_all.Goals as goal

pub loop-k-init : goal.loop-k-init
loop-k-init c = record {
  many = refl;
  chunks = sym (columns_none _);
  rest = refl;
}

pub put_next-requires : goal.put_next-requires
put_next-requires c = next_fits c.loop-k.entries.items (chunks_of c.args.entries.now.items) c.loop-k.k _ c.index_mut.result.now (omega arith) c.index_mut.ensures.value (into_iter_items c.args.found.now) c.loop-k.invariant.chunks (c.loop-k.invariant.many ∙ sym (length-chunks_of c.args.entries.now.items)) c.loop-k.invariant.rest c.requires

pub loop-k-preserved : goal.loop-k-preserved
loop-k-preserved c =
    let es = c.loop-k.entries.items in
    let found = into_iter_items c.args.found.now in
    record {
      many = length-set es c.loop-k.k c.put_next.new.entry ∙ c.loop-k.invariant.many;
      chunks = next_put es (chunks_of c.args.entries.now.items) c.loop-k.k _ c.put_next.new.entry (omega arith) c.index_mut.ensures.value found c.loop-k.invariant.chunks (c.loop-k.invariant.many ∙ sym (length-chunks_of c.args.entries.now.items)) c.loop-k.invariant.rest c.put_next.ensures.chunk;
      rest = cc (c.put_next.ensures.rest, c.loop-k.invariant.rest, drop_drop c.loop-k.k found, add-one c.loop-k.k);
    }

pub returns-clause-chunks : goal.returns-clause-chunks
returns-clause-chunks c = c.loop-k.invariant.chunks ∙ columns_all (chunks_of c.args.entries.now.items) (into_iter_items c.args.found.now) c.loop-k.k (omega (arith, length-chunks_of c.args.entries.now.items))
