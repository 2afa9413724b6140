use Rattle.line_chunks.proofs.{Prelude.{arith, ◌∙◌, sym}, lemmas.{SeenLaws.as_many, EndedLemmas.{begins_at, not_yet, here_now}}}
use Rattle.line_chunks.proofs.chunk.Chunk.number_at.Goals as goal

pub loop-number-preserved : goal.loop-number-preserved
loop-number-preserved c = (omega arith, λ k from within at. not_yet c.self.inside.lines c.loop-number.number k c.args.place (omega arith) (at ∙ sym (begins_at _ _ c.self.view_is c.self.invariant.0 k)))

pub returns-then-place-start-clause-at : goal.returns-then-place-start-clause-at
returns-then-place-start-clause-at c = λ k from within at. here_now c.self.inside.lines c.loop-number.number k c.args.place c.self.invariant.0 (omega (arith, as_many _ _ c.self.view_is)) (c.loop-number.invariant.1 k from within at) (omega arith) (at ∙ sym (begins_at _ _ c.self.view_is c.self.invariant.0 k))
