use Rattle.line_finds.proofs.{Prelude.◌∙◌, lemmas.PieceLemmas.are_of}
use Rattle.line_finds.proofs.pieces.Pieces.all.Goals as goal

pub returns : goal.returns
returns g c = let are = are_of c.self.view_is c.self.invariant in c.deref.ensures.value ∙ are.items_are
