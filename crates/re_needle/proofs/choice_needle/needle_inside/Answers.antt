use Rattle.{re_needle.proofs.{Prelude.{take_rest, ◌<◌, ◌≡◌, ◌+◌, ◌++◌, ◌∷◌, ◌∙◌, length, map, take, drop, get_or, ap, arith, rules, subst, sym, cat, expression_of, IsNeedleOf}, lemmas.NeededLaws.parts_around}, re_trees.proofs.lemmas.ExpressionLaws.{expression-Alt, expression-Cat}}
use Rattle.re_needle.proofs.choice_needle.needle_inside.Goals as goal

pub returns-then-is_rare : goal.returns-then-is_rare
returns-then-is_rare c =
    let parts = c.in-Cat.parts.items in let place = c.parts.place in let lt : place < length parts = omega arith in
    let is : c.index.result.now ≡ get_or parts place c.index.result.now = search rules in
    let of = rw (c.in-Some.is, c.deref.ensures.value, c.deref-in-parts.ensures.value, c.deref-in-parts-2.ensures.value, take_rest) at c.in_ok-needle.ensures in
    let choice = ap expression_of c.in-Alt.is ∙ expression-Alt c.in-Alt.branches in
    let whole = parts_around parts place lt is ∙ ap (λ e. map expression_of (take place parts) ++ e ∷ map expression_of (drop (place + 1) parts)) choice in
    rw c.in-Cat.is (rw (expression-Cat c.in-Cat.parts) (rw whole of))
