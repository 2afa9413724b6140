use Rattle.line_chunks.proofs.{Prelude.{◌∙◌, ap, Finds, numbers_at}, lemmas.SeenLaws.{as_many, found_at}}
use Rattle.line_chunks.proofs.chunk.Chunk.matches.Goals as goal

pub returns-clause-at : goal.returns-clause-at
returns-clause-at c = λ k h. ap (numbers_at k) c.matches.ensures.same ∙ ap (λ (finds : Finds). finds.numbers) (found_at _ _ c.self.view_is k h)

pub returns-clause-within : goal.returns-clause-within
returns-clause-within c = rw (c.self.invariant.1, as_many _ _ c.self.view_is) at c.matches.ensures.within
