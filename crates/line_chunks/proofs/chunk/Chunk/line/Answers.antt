use Rattle.line_chunks.proofs.{Prelude.{arith, ◌∙◌, ap, length, bare}, lemmas.{SeenLaws.{as_many, text_at}, EndedLemmas.has_byte}}
use Rattle.line_chunks.proofs.chunk.Chunk.line.Goals as goal

pub slice_bounds-result-count : goal.slice_bounds-result-count
slice_bounds-result-count c = omega (arith, ap length c.at-line.ensures, has_byte c.self.inside.lines c.args.k c.self.invariant.0 (omega (arith, as_many _ _ c.self.view_is)))

pub returns-clause-line : goal.returns-clause-line
returns-clause-line c = ap bare c.at-line.ensures ∙ text_at _ _ c.self.view_is c.args.k c.requires
