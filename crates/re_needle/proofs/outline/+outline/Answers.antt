use Rattle.{re_needle.proofs.{Prelude.{rules, ◌≡◌, map, take, refl, sym, ap, subst, ◌∙◌, arith, take_all, alt, cat, expression_of, members, AddsOutline, BeginsWith}, lemmas.{OutlineLaws.{adds_optional, adds_set, adds_stretch, adds_repeat, adds_more, ok_with}, ChoiceOutlines.{adds_choice, begins_branch, joined_first, joined_second, no_branch, parts_more}}, outline.+outline.Goals.{add_choice-then-i-eq0, add_choice-else-i-eq0}}, re_trees.proofs.lemmas.ExpressionLaws.{expression-Alt, expression-Cat, expression-Set, expression-Repeat}}
use Rattle.re_needle.proofs.outline.+outline.Goals as goal

pub add_all-parts-preserved : goal.add_all-parts-preserved
add_all-parts-preserved t c =
    adds_more _ _ _ _ _ _ c.parts-test.true c.index-parts-i.is
    c.parts.invariant c.in_ok-add_tree.ensures

pub add_tree-returns-then-depth-eq0 : goal.add_tree-returns-then-depth-eq0
add_tree-returns-then-depth-eq0 t c = ok_with _ (adds_stretch c.args.marks.now.items c.add_mark.new.marks.items (expression_of c.args.tree.now)) c.add_mark.ensures

pub add_tree-returns-then-least-eq0 : goal.add_tree-returns-then-least-eq0
add_tree-returns-then-least-eq0 t c =
    ok_with _
    (adds_optional c.args.marks.now.items c.add_mark-then-least-eq0.new.marks.items (expression_of c.in-Repeat.part.value) (expression_of c.args.tree.now) c.in-Repeat.most
    (cc (c.in-Repeat.is, expression-Repeat c.in-Repeat.part c.in-Repeat.least c.in-Repeat.most, c.if-least-eq0.true)))
    c.add_mark-then-least-eq0.ensures

pub add_tree-returns-in-Set : goal.add_tree-returns-in-Set
add_tree-returns-in-Set t c = ok_with _ (adds_set c.args.marks.now.items c.add_mark-in-Set.new.marks.items (expression_of c.args.tree.now) c.in-Set.set (cc (c.in-Set.is, expression-Set c.in-Set.set))) c.add_mark-in-Set.ensures

pub add_tree-returns-in_ok-add_tree-in-Repeat : goal.add_tree-returns-in_ok-add_tree-in-Repeat
add_tree-returns-in_ok-add_tree-in-Repeat t c =
    ok_with _
    (adds_repeat c.args.marks.now.items c.add_tree.new.marks.items c.add_mark-in-Repeat.new.marks.items (expression_of c.in-Repeat.part.value) (expression_of c.args.tree.now) c.in-Repeat.least c.in-Repeat.most
    (cc (c.in-Repeat.is, expression-Repeat c.in-Repeat.part c.in-Repeat.least c.in-Repeat.most)) (search (arith, rules)) (rw (← c.deref-in-Repeat-2.ensures) c.in_ok-add_tree-in-Repeat.ensures))
    c.add_mark-in-Repeat.ensures

pub add_tree-returns-in_default : goal.add_tree-returns-in_default
add_tree-returns-in_default t c = ok_with _ (adds_stretch c.args.marks.now.items c.add_mark-in_default.new.marks.items (expression_of c.args.tree.now)) c.add_mark-in_default.ensures

pub add_choice-parts-preserved : goal.add_choice-parts-preserved
add_choice-parts-preserved t c =
    let e = expression_of c.index-parts-i.result in
    let begins =
    begins_branch c.add_tree.new.marks.items (map members c.in_ok-sets.sets.items) e c.new-branch.ensures.items c.in_ok-add_tree.ensures (rw c.deref.ensures.value at c.in_ok-sets.ensures) in
    parts_more _ _ _ _ c.parts-test.true c.index-parts-i.is
    (elim c.if-i-eq0.branch [
      | add_choice-then-i-eq0 w ↦ rw w.if-i-eq0.true (no_branch _)
      | add_choice-else-i-eq0 w ↦
          rw w.front-is (joined_first _ _ _ (rw w.deref-else-i-eq0.ensures.value at w.join.ensures) c.parts.invariant)
    ])
    (elim c.if-i-eq0.branch [
      | add_choice-then-i-eq0 w ↦ rw w.front-is begins
      | add_choice-else-i-eq0 w ↦
          rw w.front-is (joined_second _ _ e (rw w.deref-else-i-eq0.ensures.value at w.join.ensures) begins)
    ])

pub add_choice-returns : goal.add_choice-returns
add_choice-returns t c =
    let choice = alt (map expression_of c.args.parts.now) in
    let begins =
    rw (take_all c.parts.i c.args.parts.now (omega arith)) at c.parts.invariant in
    ok_with _
    (adds_choice c.args.marks.now.items c.add_sets.new.marks.items c.add_mark.new.marks.items (map members c.parts.front.items) choice choice refl begins (rw c.deref-2.ensures.value at c.in_ok-add_sets.ensures))
    c.add_mark.ensures

pub add_tree-returns-in-Cat : goal.add_tree-returns-in-Cat
add_tree-returns-in-Cat t c = rw (ap expression_of c.in-Cat.is ∙ expression-Cat c.in-Cat.parts, ← c.deref.ensures.value) c.add_all.ensures

pub add_tree-returns-in-Alt : goal.add_tree-returns-in-Alt
add_tree-returns-in-Alt t c = rw (ap expression_of c.in-Alt.is ∙ expression-Alt c.in-Alt.parts, ← c.deref-in-Alt.ensures.value) c.add_choice.ensures

pub add_tree-returns-in-Some : goal.add_tree-returns-in-Some
add_tree-returns-in-Some t c = rw (ap expression_of c.in-Repeat.is ∙ expression-Repeat c.in-Repeat.part c.in-Repeat.least c.in-Repeat.most, ← c.deref-in-Repeat.ensures, c.in-Some.ensures) c.add_repeated.ensures

pub add_all-returns : goal.add_all-returns
add_all-returns t c = rw (take_all c.parts.i c.args.parts.now (omega arith)) at c.parts.invariant

pub add_choice-parts-init : goal.add_choice-parts-init
add_choice-parts-init t c = no_branch _
