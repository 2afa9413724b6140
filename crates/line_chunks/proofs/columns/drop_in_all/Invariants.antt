use Rattle.line_chunks.proofs.Prelude.{◌≡◌, ◌++◌, take, drop, map, length, line_without, chunks_of}
use Rattle.line_chunks.proofs.columns.drop_in_all.Given as goal

abbrev pub invariant-loop-k : goal.invariant-loop-k
invariant-loop-k l = record {
  many : length l.entries.items ≡ length l.fn.entries.items;
  chunks : chunks_of l.entries.items ≡
      map (map (line_without l.p)) (take l.k (chunks_of l.fn.entries.items)) ++ drop l.k (chunks_of l.fn.entries.items);
}
