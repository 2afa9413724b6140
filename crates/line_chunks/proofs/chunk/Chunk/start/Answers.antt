use Rattle.line_chunks.proofs.{Prelude.{arith, ◌∙◌, ap, length}, lemmas.EndedLemmas.{text_is, begins_at}}
use Rattle.line_chunks.proofs.chunk.Chunk.start.Goals as goal

pub returns-clause-start : goal.returns-clause-start
returns-clause-start c = c.start.ensures.start ∙ begins_at _ _ c.self.view_is c.self.invariant.0 c.args.k

pub returns-clause-fits : goal.returns-clause-fits
returns-clause-fits c = omega (arith, ap length (text_is _ _ c.self.view_is c.self.invariant.0))
