use Rattle.line_chunks.proofs.{Prelude.{ap, ◌∙◌, splice}, lemmas.Joins.drained}
use Rattle.line_chunks.proofs.chunks.put_chunks.Goals as goal

pub returns-clause-ok : goal.returns-clause-ok
returns-clause-ok c =
    let h = c.in_ok-splice.ensures.items in
    let given = drained h.0 h.1 h.3 h.2.0 (h.2.1 ∙ c.args.fresh.ok.0) in
    h.4 ∙ ap (λ ys. splice c.args.entries.now.items c.args.from c.args.to ys) given
