use Rattle.line_finds.proofs.{Prelude.◌∙◌, lemmas.PieceLemmas.{are_of, are_filled, are_lists, seen_as}}
use Rattle.line_finds.proofs.pieces.Pieces.fill.Goals as goal

pub invariant_of-self-2 : goal.invariant_of-self-2
invariant_of-self-2 g c = are_lists (are_filled (are_of c.self.view_is c.self.invariant) c.args.k _ c.in-Ok.start c.requires c.self.inside.starts.ok.0 (c.in-Ok.ensures.1 ∙ c.len.ensures ∙ c.self.inside.items.ok.0) c.in_ok-resize.ensures.items)

pub returns-clause-ok : goal.returns-clause-ok
returns-clause-ok g c = seen_as (are_filled (are_of c.self.view_is c.self.invariant) c.args.k _ c.in-Ok.start c.requires c.self.inside.starts.ok.0 (c.in-Ok.ensures.1 ∙ c.len.ensures ∙ c.self.inside.items.ok.0) c.in_ok-resize.ensures.items)
