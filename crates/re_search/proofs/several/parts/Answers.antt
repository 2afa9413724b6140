use Rattle.re_search.proofs.{Prelude.{arith, matched_expression}, lemmas.{OneMatcherMore.{one_more, all_asked, steps_more}, KeptMatchers.one_kept}}
use Rattle.re_search.proofs.several.parts.Goals as goal

pub loop-matcher-preserved : goal.loop-matcher-preserved
loop-matcher-preserved c =
    let i = c.loop-matcher.matcher-index in
    let d = c.matcher-item.result in
    let same = c.loop-matcher.invariant.same_matchers in
    record {
      reported = rw (one_more matched_expression c.args.matchers.now c.loop-matcher.matchers same.same_expressions i d c.loop-matcher-test.true) (c.better-best.ensures _ _ _ _ _ c.loop-matcher.invariant.reported c.find-found.ensures.reported);
      same_matchers = one_kept same i d _ c.find-found.ensures.same;
      steps = steps_more i _ _ _ _ c.loop-matcher.invariant.steps c.find-found.ensures.steps;
    }

pub returns-clause-reported : goal.returns-clause-reported
returns-clause-reported c = rw c.if-whole.false (rw (all_asked c.args.matchers.now c.loop-matcher.matcher-index (omega arith)) at c.loop-matcher.invariant.reported)
