use Rattle.re_search.proofs.{Prelude.{[], ◌∷◌, subst, expression_of, AddsEach}, lemmas.PlainLaws.{no_strings, next_string}}
use Rattle.re_search.proofs.strings.add_each.Goals as goal

pub trees-init : goal.trees-init
trees-init c = no_strings c.args.strings.now.items

pub trees-preserved : goal.trees-preserved
trees-preserved c =
    let old = c.trees.strings.items in
    let new = c.add_tree.new.strings.items in
    next_string expression_of c.args.trees.now c.trees.place c.index-trees-place.result c.args.strings.now.items old new c.trees-test.true c.trees.invariant
    (subst (λ t. AddsEach (expression_of t ∷ []) old new) c.index-trees-place.is c.in_ok-add_tree.ensures)
