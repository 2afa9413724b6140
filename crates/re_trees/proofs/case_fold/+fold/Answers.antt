use Rattle.re_trees.proofs.{Prelude.{rules, map, ap, ◌∙◌, Box, Global, Tree, expression_of, folded, the_lemmas}, lemmas.FoldedLaws.{folded-Cat, folded-Alt, folded-Repeat}}
use Rattle.re_trees.proofs.case_fold.+fold.Goals as goal

pub fold_tree-returns-in-Cat : goal.fold_tree-returns-in-Cat
fold_tree-returns-in-Cat t c =
    let same = c.fold_all.ensures ∙ ap (λ x. map folded (map expression_of x.items)) c.in-Cat.parts-is in
    rw c.in-Cat.is (ap expression_of (search (rules, the_lemmas)) ∙ folded-Cat c.fold_all.new.parts c.in-Cat.parts same)

pub fold_tree-returns-in-Alt : goal.fold_tree-returns-in-Alt
fold_tree-returns-in-Alt t c =
    let same = c.fold_all-in-Alt.ensures ∙ ap (λ x. map folded (map expression_of x.items)) c.in-Alt.parts-is in
    rw c.in-Alt.is (ap expression_of (search (rules, the_lemmas)) ∙ folded-Alt c.fold_all-in-Alt.new.parts c.in-Alt.parts same)

pub fold_tree-returns-in-Repeat : goal.fold_tree-returns-in-Repeat
fold_tree-returns-in-Repeat t c =
    let new : Box Tree Global = record { ptr = c.in-Repeat.part.ptr; alloc = c.in-Repeat.part.alloc; value = c.fold_tree.new.tree } in
    let same = c.fold_tree.ensures ∙ ap (λ x. folded (expression_of x)) c.deref_mut.ensures.value ∙ ap (λ x. folded (expression_of x.value)) c.in-Repeat.part-is in
    rw c.in-Repeat.is (ap expression_of (search (rules, the_lemmas)) ∙ folded-Repeat new c.in-Repeat.part c.in-Repeat.field-1 c.in-Repeat.field-2 same)
