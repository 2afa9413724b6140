use Rattle.{re_search.proofs.{Prelude.{◌≡◌, ◌+◌, length, refl, ap, subst, arith, lines_of, mul-le-mul_left, slice_range, false≢true, expressions_of, sought_of, Sought, IsSought}, lemmas.{KeptMatchers.{same_over, same_sought}, OneMatcher.sought_alone, SearchedBlocks.times_more}}, re_meter.proofs.lemmas.Adding.adds_within, re_runs.proofs.lemmas.NextLines.{finds_same, none_next, next_from, passed_from, long}}
use Rattle.re_search.proofs.several.next_matched.Goals as goal

pub returns-then-matchers-eq1-clause-reported : goal.returns-then-matchers-eq1-clause-reported
returns-then-matchers-eq1-clause-reported c =
    let alone = sought_alone c.args.matchers.now c.index-matchers-0.result c.args.whole c.if-matchers-eq1.true c.requires.alike in
    finds_same _ _ (λ line. (alone line).0) (λ line. (alone line).1) (lines_of c.args.block.now) c.next_matched.result c.next_matched.ensures.reported

pub returns-in_default-clause-reported : goal.returns-in_default-clause-reported
returns-in_default-clause-reported c = none_next (IsSought (sought_of c.args.whole c.args.matchers.now)) c.args.block.now c.lines.start c.requires.block c.lines.invariant.passed c.in_default.ensures

pub returns-in_default-clause-steps : goal.returns-in_default-clause-steps
returns-in_default-clause-steps c =
    let most = mul-le-mul_left (length (expressions_of c.args.matchers.now)) c.lines.invariant.within in
    adds_within _ _ _ _ _ _ most most c.lines.invariant.steps

pub returns-then-is_matched-clause-reported : goal.returns-then-is_matched-clause-reported
returns-then-is_matched-clause-reported c =
    let s : Sought = sought_of c.args.whole c.args.matchers.now in
    let i = c.lines.invariant in
    let block = c.args.block.now in
    let start = c.lines.start in
    next_from (IsSought s) block start c.in-Some.end c.in-Some.ensures i.passed
    (subst (λ q. IsSought q (slice_range block start c.in-Some.end)) (same_sought i.same) (c.if-is_matched.ensures.reported.0 refl))

pub returns-then-is_matched-clause-steps : goal.returns-then-is_matched-clause-steps
returns-then-is_matched-clause-steps c =
    let s : Sought = sought_of c.args.whole c.args.matchers.now in
    let i = c.lines.invariant in
    let cut = c.in-Some.ensures in
    let n = length (expressions_of c.args.matchers.now) in
    let many : length (expressions_of c.lines.matchers) ≡ n = ap length i.same.same_expressions in
    times_more n c.lines.start (length (slice_range c.args.block.now c.lines.start c.in-Some.end) + 1) _ i.steps (rw many at c.is_matched.ensures.steps) (omega (arith, cut.0, long (IsSought s) c.args.block.now c.lines.start c.in-Some.end cut i.passed))

pub lines-preserved : goal.lines-preserved
lines-preserved c =
    let s : Sought = sought_of c.args.whole c.args.matchers.now in
    let i = c.lines.invariant in
    let cut = c.in-Some.ensures in
    let n = length (expressions_of c.args.matchers.now) in
    let many : length (expressions_of c.lines.matchers) ≡ n = ap length i.same.same_expressions in
    record {
      within = omega (arith, cut.1);
      passed = passed_from (IsSought s) c.args.block.now c.lines.start c.in-Some.end cut i.passed
          (subst (λ q. ¬ IsSought q (slice_range c.args.block.now c.lines.start c.in-Some.end)) (same_sought i.same) (λ holds. false≢true (c.if-is_matched.ensures.reported.1 holds)));
      same = same_over c.is_matched.ensures.same_matchers i.same;
      steps = times_more n c.lines.start (length (slice_range c.args.block.now c.lines.start c.in-Some.end) + 1) _ i.steps (rw many at c.is_matched.ensures.steps) (omega (arith, cut.0, long (IsSought s) c.args.block.now c.lines.start c.in-Some.end cut i.passed));
    }
