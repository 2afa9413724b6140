use Rattle.line_finds.proofs.{Prelude.◌∙◌, lemmas.PieceLemmas.{are_of, many_starts}}
use Rattle.line_finds.proofs.pieces.Pieces.len.Goals as goal

pub returns : goal.returns
returns g c = c.len.ensures ∙ c.self.inside.starts.ok.0 ∙ many_starts (are_of c.self.view_is c.self.invariant)
