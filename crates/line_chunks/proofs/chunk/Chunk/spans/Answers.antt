use Rattle.line_chunks.proofs.{Prelude.{◌∙◌, ap, Finds}, lemmas.SeenLaws.found_at}
use Rattle.line_chunks.proofs.chunk.Chunk.spans.Goals as goal

pub returns : goal.returns
returns c = c.spans.ensures ∙ ap (λ (finds : Finds). finds.spans) (found_at _ _ c.self.view_is c.args.k c.requires)
