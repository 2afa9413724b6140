use Rattle.line_chunks.proofs.Prelude.{◌≡◌, chunks_of, IsSummedTo}
use Rattle.line_chunks.proofs.entries.sum_from.Given as goal

abbrev pub invariant-loop-k : goal.invariant-loop-k
invariant-loop-k l = record {
  chunks : chunks_of l.entries.items ≡ chunks_of l.fn.entries.items;
  summed : IsSummedTo l.entries.items l.k;
}
