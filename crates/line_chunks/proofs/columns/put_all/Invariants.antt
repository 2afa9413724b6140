use Rattle.line_chunks.proofs.Prelude.{◌≡◌, take, drop, length, into_iter_items, with_columns, chunks_of}
use Rattle.line_chunks.proofs.columns.put_all.Given as goal

abbrev pub invariant-loop-k : goal.invariant-loop-k
invariant-loop-k l = record {
  many : length l.entries.items ≡ length l.fn.entries.items;
  chunks : chunks_of l.entries.items ≡
      with_columns (chunks_of l.fn.entries.items) (take l.k (into_iter_items l.fn.found));
  rest : into_iter_items l.found ≡ drop l.k (into_iter_items l.fn.found);
}
