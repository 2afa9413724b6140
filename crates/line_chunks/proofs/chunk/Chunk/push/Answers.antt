use Rattle.line_chunks.proofs.{Prelude.{◌∙◌, ◌++◌, [], ◌∷◌, ap, sym, map, length-map, bare, new_line}, lemmas.{SeenLaws.line_added, EndedLemmas.bare_more}}
use Rattle.line_chunks.proofs.chunk.Chunk.push.Goals as goal

pub returns-clause-ok : goal.returns-clause-ok
returns-clause-ok c = line_added (map bare c.self.inside.lines) c.args.line.now c.self.inside.found c.push_none.new.self (c.self.invariant.1 ∙ sym (length-map c.self.inside.lines bare)) (bare_more _ c.args.line.now c.in_ok-push.ensures.ok) c.in_default.ensures.old c.in_default.ensures.new ∙ ap (λ lines. lines ++ new_line c.args.line.now ∷ []) c.self.view_is
