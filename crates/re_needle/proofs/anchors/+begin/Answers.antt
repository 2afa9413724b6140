use Rattle.{re_needle.proofs.{Prelude.{map, take, ap, ◌∙◌, subst, sym, alt, cat, expression_of, HasNoBegin}, lemmas.{NeededLaws.parts_grown, LaterStarts.{no_begin_cat, no_begin_alt}}}, re_trees.proofs.lemmas.ExpressionLaws.expression-Repeat}
use Rattle.re_needle.proofs.anchors.+begin.Goals as goal

pub has_begin-returns-in-Repeat : goal.has_begin-returns-in-Repeat
has_begin-returns-in-Repeat t c = λ none. rw (ap expression_of c.in-Repeat.is ∙ expression-Repeat c.in-Repeat.part c.in-Repeat.field-1 c.in-Repeat.field-2) (rw (← c.deref-in-Repeat.ensures) (c.has_begin.ensures none))

pub some_has_begin-parts-preserved : goal.some_has_begin-parts-preserved
some_has_begin-parts-preserved t c =
    let parts = c.args.parts.now in let i = c.parts.i in let part = c.index-parts-i.result in
    let free = c.has_begin.ensures c.if-has_begin.false in
    let grown = sym (parts_grown _ i c.parts-test.true c.index-parts-i.is) in
    record {
      all = subst (λ es. HasNoBegin (cat es)) grown (no_begin_cat (map expression_of (take i parts)) (expression_of part) c.parts.invariant.all free);
      one = subst (λ es. HasNoBegin (alt es)) grown (no_begin_alt (map expression_of (take i parts)) (expression_of part) c.parts.invariant.one free);
    }
