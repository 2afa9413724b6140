use Rattle.re_syntax.proofs.{Prelude.{◌∙◌, ap, ◌++◌, ◌∷◌, [], expression_of}, lemmas.BuildingLaws.left_means}
use Rattle.re_syntax.proofs.building.close_level.Goals as goal

pub returns-clause-built : goal.returns-clause-built
returns-clause-built c =
    left_means _ _ c.in-Some.ensures.items (rw c.replace-group.ensures.value at c.in_ok-tree.ensures.made)
    (rw (c.replace-group.ensures.after) (λ l m. record { branches = m.branches; items = rw c.replace-group.ensures.after at c.in_ok-add.ensures.added ∙ ap (λ es. es ++ expression_of c.in_ok-tree.tree ∷ []) m.items }))
