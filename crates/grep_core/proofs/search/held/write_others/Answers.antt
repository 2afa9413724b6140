use Rattle.{grep_core.proofs.{Prelude.{◌+◌, ◌++◌, None, length, drop, slice_range, ap, subst, arith, length-drop, lines_of, IsSought, sought_of, expressions_of}, lemmas.{RowLemmas.goes_on, OneLineLemmas.is_err, MatchedLemmas.{sent_next, sent_out, sent_stops_at_end, others_stop, steps_for_more, steps_within}}}, std.proofs.lemmas.List.take_rest, re_search.{specs.Working.Sought.FindsSought, proofs.lemmas.KeptMatchers.{same_over, same_sought}}}
use Rattle.grep_core.proofs.search.held.write_others.Goals as goal

pub returns-in_err-push_all-clause-written : goal.returns-in_err-push_all-clause-written
returns-in_err-push_all-clause-written g c =
    let s = sought_of c.args.whole c.args.matchers.now in
    let i = c.lines.invariant in
    let (sent, to, went) = i.writes in
    let none = subst (λ q. FindsSought q (lines_of (drop c.lines.start c.args.block.now)) None) (same_sought i.same) (rw take_rest at c.in_default.ensures.reported) in
    let (all, are, stopped) = sent_stops_at_end (IsSought s) to went none (rw take_rest at c.in_err-push_all.ensures) in
    rw (is_err _ c.from_residual.ensures.1) (all, are, stopped, tt)

pub returns-in_default-clause-written : goal.returns-in_default-clause-written
returns-in_default-clause-written g c =
    let s = sought_of c.args.whole c.args.matchers.now in
    let i = c.lines.invariant in
    let (sent, to, went) = i.writes in
    let none = subst (λ q. FindsSought q (lines_of (drop c.lines.start c.args.block.now)) None) (same_sought i.same) (rw take_rest at c.in_default.ensures.reported) in
    let (all, are, bytes, many) = sent_out (IsSought s) to none in
    (all, are, rw bytes at (goes_on _ _ _ _ _ _ _ went (rw take_rest at c.in_ok-push_all.ensures)), many)

pub returns-in_err-push_all-2-clause-written : goal.returns-in_err-push_all-2-clause-written
returns-in_err-push_all-2-clause-written g c =
    let s = sought_of c.args.whole c.args.matchers.now in
    let i = c.lines.invariant in
    let (sent, to, went) = i.writes in
    let next = rw (same_sought i.same) at (rw take_rest at c.in-Some.ensures.reported) in
    let (all, are, stopped) = others_stop s to went c.in-Some.at next c.in_err-push_all-2.ensures in
    rw (is_err _ c.from_residual-in_err-push_all-2.ensures.1) (all, are, stopped, tt)

pub returns-in_err-push_all-2-clause-steps : goal.returns-in_err-push_all-2-clause-steps
returns-in_err-push_all-2-clause-steps g c =
    let i = c.lines.invariant in
    let (sent, to, went) = i.writes in
    let n = length (expressions_of c.args.matchers.now) in
    let many = ap length i.same.same_expressions in
    let within = (rw take_rest at c.in-Some.ensures.within).1 in
    steps_within n _ _ _ _ (omega (arith, within, length-drop c.lines.start c.args.block.now, to.within)) (steps_for_more n _ _ i.steps (rw many at c.in-Some.ensures.steps))

pub lines-preserved : goal.lines-preserved
lines-preserved g c =
    let s = sought_of c.args.whole c.args.matchers.now in
    let i = c.lines.invariant in
    let (sent, to, went) = i.writes in
    let n = length (expressions_of c.args.matchers.now) in
    let at = c.in-Some.at in
    let many = ap length i.same.same_expressions in
    let within = (rw take_rest at c.in-Some.ensures.within).1 in
    let next = rw (same_sought i.same) at (rw take_rest at c.in-Some.ensures.reported) in
    record {
      writes = (sent ++ slice_range c.args.block.now c.lines.start (c.lines.start + at.start), sent_next (IsSought s) to at next within, goes_on _ _ _ _ _ _ _ went c.in_ok-push_all-2.ensures);
      same = same_over c.next_matched.ensures.same_matchers i.same;
      steps = steps_for_more n _ _ i.steps (rw many at c.in-Some.ensures.steps);
    }
