use Rattle.re_search.proofs.{Prelude.{arith, refl, false≢true}, lemmas.{OneMatcherMore.{none_more, one_matches, all_asked, steps_more}, KeptMatchers.one_kept}}
use Rattle.re_search.proofs.several.is_matched.Goals as goal

pub loop-matcher-preserved : goal.loop-matcher-preserved
loop-matcher-preserved c =
    let i = c.loop-matcher.matcher-index in
    let d = c.matcher-item.result in
    let same = c.loop-matcher.invariant.same_matchers in
    record {
      none = none_more same c.requires.alike c.args.line.now i d c.loop-matcher-test.true c.loop-matcher.invariant.none (λ m. false≢true (c.if-is_match.ensures.reported.1 m));
      same_matchers = one_kept same i d _ c.is_match.ensures.same;
      steps = steps_more i _ _ _ _ c.loop-matcher.invariant.steps c.is_match.ensures.steps;
    }

pub returns-then-is_match-clause-reported : goal.returns-then-is_match-clause-reported
returns-then-is_match-clause-reported c =
    (λ _. one_matches c.loop-matcher.invariant.same_matchers c.requires.alike c.args.line.now _ c.matcher-item.result c.loop-matcher-test.true (c.if-is_match.ensures.reported.0 refl), λ _. refl)

pub returns-then-is_match-clause-same_matchers : goal.returns-then-is_match-clause-same_matchers
returns-then-is_match-clause-same_matchers c = one_kept c.loop-matcher.invariant.same_matchers _ c.matcher-item.result _ c.is_match.ensures.same

pub returns-clause-reported : goal.returns-clause-reported
returns-clause-reported c = (λ no. absurd (false≢true no), λ some. absurd ((rw (all_asked c.args.matchers.now c.loop-matcher.matcher-index (omega arith)) at c.loop-matcher.invariant.none) some))
