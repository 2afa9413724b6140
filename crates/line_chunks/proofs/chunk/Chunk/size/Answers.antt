use Rattle.line_chunks.proofs.{Prelude.{◌∙◌, ap, length}, lemmas.EndedLemmas.text_is}
use Rattle.line_chunks.proofs.chunk.Chunk.size.Goals as goal

pub returns : goal.returns
returns c = ap length (c.all.ensures ∙ text_is _ _ c.self.view_is c.self.invariant.0)
