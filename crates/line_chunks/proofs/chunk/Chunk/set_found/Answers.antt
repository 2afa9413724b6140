use Rattle.line_chunks.proofs.{Prelude.{◌∙◌, ap, sym, seen}, lemmas.SeenLaws.{as_many, texts_are}}
use Rattle.line_chunks.proofs.chunk.Chunk.set_found.Goals as goal

pub invariant_of-self : goal.invariant_of-self
invariant_of-self c = (c.self.invariant.0, c.requires ∙ sym (as_many _ _ c.self.view_is))

pub returns : goal.returns
returns c = ap (λ texts. seen texts c.args.found) (texts_are _ _ c.self.view_is)
