use Rattle.{re_search.proofs.{Prelude.{◌∙◌, ◌+◌, ◌-◌, arith, length, length-replicate, get_or-replicate, ap, get_or, matched_expression, expressions_of}, lemmas.{OneMatcherMore.{one_more, all_asked, steps_more}, KeptMatchers.{none_asked, one_kept}, LinePartsLaws.{no_ends, ends_more}}}, re_meter.proofs.lemmas.Adding.{adds_none, adds_within}}
use Rattle.re_search.proofs.line_parts.put_ends.Goals as goal

pub loop-matcher-init : goal.loop-matcher-init
loop-matcher-init c = record {
  right = no_ends c.args.line.now c.args.ends.now (λ i lt. ap (λ l. get_or l i 0) c.requires.zeros ∙ get_or-replicate _ i 0 0 lt);
  same_matchers = none_asked;
  room = ap length c.requires.zeros ∙ length-replicate _ _;
  spare = omega arith;
  steps = adds_none _ _ _;
}

pub loop-matcher-preserved : goal.loop-matcher-preserved
loop-matcher-preserved c =
    let old = c.args.matchers.now in
    let i = c.loop-matcher.matcher-index in
    let d = c.matcher-item.result in
    let same = c.loop-matcher.invariant.same_matchers in
    record {
      right =
          ends_more (expressions_of old) c.args.line.now i _ c.loop-matcher.ends c.add_ends.new.ends c.loop-matcher.invariant.room (one_more matched_expression old c.loop-matcher.matchers same.same_expressions i d c.loop-matcher-test.true)
          c.loop-matcher.invariant.right (rw c.rest_of.ensures at c.add_ends.ensures.added);
      same_matchers = one_kept same i d _ c.add_ends.ensures.same;
      room = c.add_ends.ensures.added.0 ∙ c.loop-matcher.invariant.room;
      spare = omega (arith, c.add_ends.ensures.same_spare, c.loop-matcher.invariant.spare);
      steps = let long = length c.args.line.now in
          steps_more i _ _ _ _ c.loop-matcher.invariant.steps (adds_within (long - 0) (long + 1) 0 (long + 1) _ _ (omega arith) (omega arith) (rw c.rest_of.ensures at c.add_ends.ensures.steps.few));
    }

pub returns-clause-right : goal.returns-clause-right
returns-clause-right c = rw (all_asked c.args.matchers.now c.loop-matcher.matcher-index (omega arith)) at (c.loop-matcher.invariant.right)
