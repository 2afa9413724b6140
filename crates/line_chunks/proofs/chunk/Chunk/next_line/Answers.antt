use Rattle.line_chunks.proofs.lemmas.NextLines.{passed_next}
use Rattle.line_chunks.proofs.chunk.Chunk.next_line.Goals as goal

pub loop-k-preserved : goal.loop-k-preserved
loop-k-preserved c = passed_next c.args.self.now c.args.from c.loop-k.k c.args.matched c.loop-k.invariant c.is_matched.ensures c.if-is_matched-matched.false
