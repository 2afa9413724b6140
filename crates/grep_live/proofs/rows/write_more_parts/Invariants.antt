use Rattle.grep_live.proofs.{Prelude.{◌∷◌, map, span_places, part_text}, lemmas.Pushing.EachUpTo}
use Rattle.grep_live.proofs.rows.write_more_parts.Given as goal

abbrev pub invariant-loop-part : goal.invariant-loop-part
invariant-loop-part g l = EachUpTo g.W.CountedWrite.contents g.W.CountedWrite.failures (λ part. 44 ∷ part_text part) (map span_places l.parts) l.fn.out l.out l.part-index
