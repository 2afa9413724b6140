use Rattle.line_chunks.proofs.{Prelude.{arith, ◌∙◌, ap, length, not, ◌==◌, Finds}, lemmas.SeenLaws.{as_many, found_at}}
use Rattle.line_chunks.proofs.chunk.Chunk.is_matched.Goals as goal

pub is_matched-requires : goal.is_matched-requires
is_matched-requires c = omega (arith, as_many _ _ c.self.view_is)

pub returns : goal.returns
returns c = c.is_matched.ensures ∙ ap (λ (finds : Finds). not (length finds.numbers == 0)) (found_at _ _ c.self.view_is c.args.k c.requires)
