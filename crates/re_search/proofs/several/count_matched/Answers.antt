use Rattle.{re_search.proofs.{Prelude.{◌-◌, ◌≡◌, ◌+◌, None, Some, length, drop, ap, subst, arith, length-drop, take_rest, lines_of, expressions_of, sought_of, Sought, IsSought, FindsSought}, lemmas.{KeptMatchers.{same_over, same_sought}, SearchedBlocks.times_more}}, re_runs.proofs.lemmas.NextLines.{CountsTo, counts_next, counts_all}}
use Rattle.re_search.proofs.several.count_matched.Goals as goal

pub returns-in_default-clause-reported : goal.returns-in_default-clause-reported
returns-in_default-clause-reported c =
    let i = c.lines.invariant in
    let s : Sought = sought_of c.args.whole c.args.matchers.now in
    counts_all (IsSought s) c.args.block.now c.lines.rest.now c.lines.count i.counts
    (subst (λ q. FindsSought q (lines_of c.lines.rest.now) None) (same_sought i.same) c.in_default.ensures.reported)

pub lines-preserved : goal.lines-preserved
lines-preserved c =
    let i = c.lines.invariant in
    let s : Sought = sought_of c.args.whole c.args.matchers.now in
    let block = c.args.block.now in
    let rest = c.lines.rest.now in
    let at = c.in-Some.at in
    let within = c.in-Some.ensures.within in
    let found = subst (λ q. FindsSought q (lines_of rest) (Some at)) (same_sought i.same) c.in-Some.ensures.reported in
    let next : CountsTo (IsSought s) block (drop (at.end + 1) rest) (c.lines.count + 1) = counts_next (IsSought s) block rest c.lines.count at within.1 i.counts found in
    let n = length (expressions_of c.args.matchers.now) in
    let many : length (expressions_of c.lines.matchers) ≡ n = ap length i.same.same_expressions in
    rw take_rest
    record {
      counts = next;
      same = same_over c.next_matched.ensures.same_matchers i.same;
      steps = times_more n (length block - length rest) (at.end + 1) _ i.steps (rw many at c.in-Some.ensures.steps) (omega (arith, i.counts.few, within.1, length-drop (at.end + 1) rest));
    }
