use Rattle.line_chunks.proofs.{Prelude.◌∙◌, lemmas.SeenLaws.as_many}
use Rattle.line_chunks.proofs.chunk.Chunk.len.Goals as goal

pub returns : goal.returns
returns c = c.len.ensures ∙ as_many _ _ c.self.view_is
