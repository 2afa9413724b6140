use Rattle.line_chunks.proofs.{Prelude.arith, lemmas.Sums.{matched_within, matched_next}}
use Rattle.line_chunks.proofs.entries.count_matched.Goals as goal

pub overflow_add-count : goal.overflow_add-count
overflow_add-count c = omega (arith, matched_within c.args.chunk.now c.loop-k.k)

pub loop-k-preserved : goal.loop-k-preserved
loop-k-preserved c = matched_next c.args.chunk.now c.loop-k.k (omega arith) c.loop-k.invariant c.is_matched.ensures c.one_if-count.ensures.one
