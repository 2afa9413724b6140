use Rattle.re_ends.proofs.Prelude.{arith, ap, ◌∙◌, length, expression_of, positions}
use Rattle.re_ends.proofs.lemmas.KeptLaws as laws
use Rattle.re_ends.proofs.kept.KeptSteps.new.Goals as goal

pub returns : goal.returns
returns c =
    let e = expression_of c.args.automaton.now in
    let classes = c.in_ok-classes.ensures.items in
    let none = c.in_ok-with_capacity.ensures.items in
    rw (c.in_ok-push-3.ensures.items, c.in_ok-push-2.ensures.items, c.in_ok-push.ensures.items, c.new-rows.ensures.items)
    (laws.right_three c.new.result c.new-2.result c.in_ok-with_capacity.field-0 c.new-3.result.items (record {
      bytes = ap length classes ∙ c.classes.ensures.len;
      classed = λ k lt. rw c.deref.ensures.value at (c.count_of-width.ensures.above k (omega (arith, lt, ap length c.deref.ensures.value, ap length classes, c.classes.ensures.len)));
      narrow = c.count_of-width.ensures.few;
      alike = rw classes c.classes.ensures.alike;
    }) c.new.ensures.items c.new-2.ensures.items (rw none (laws.no_groups (positions e))) (omega (arith, c.in_ok-with_capacity.ensures.exact, c.size.ensures)) (omega (arith, c.in_ok-lengthen.ensures.len)) (λ k. c.lengthen.ensures.none k (omega arith)))
