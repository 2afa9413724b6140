use Rattle.{re_match.proofs.{Prelude.{◌+◌, refl, rules, arith, false≢true, take_rest, Text, Matches, PassesUnmatched}, lemmas.{SameLaws.same_twice, SweptLines.{decided_at, same_line, turn_adds, last_sweep}}, sweeps.next_by_sweeps.Goals.After-sweep-sweep}, re_runs.proofs.lemmas.NextLines.{block_after, passed_on, none_next, next_from, passed_from}}
use Rattle.re_match.proofs.sweeps.next_by_sweeps.Given as given
use Rattle.re_match.proofs.sweeps.next_by_sweeps.Goals as goal

-- the lines before the one at which the sweep stopped
passed : (g : given.Over) (c : After-sweep-sweep g) → PassesUnmatched (g.M.Sweeps.expression c.args.matcher.now) (g.M.Sweeps.whole c.args.matcher.now) c.args.block.now (c.lines.start + c.sweep-sweep.result.start)
passed g c =
    let i = c.lines.invariant in
    passed_on (λ (line : Text). Matches (g.M.Sweeps.expression c.args.matcher.now) line (g.M.Sweeps.whole c.args.matcher.now)) c.args.block.now c.lines.start _ i.passed (rw (← i.same.same_expression, ← i.same.same_whole, ← take_rest) c.sweep-sweep.ensures.passes)

pub sweep-sweep-requires : goal.sweep-sweep-requires
sweep-sweep-requires g c = rw take_rest (block_after (λ (line : Text). ¬ Matches (g.M.Sweeps.expression c.args.matcher.now) line (g.M.Sweeps.whole c.args.matcher.now)) c.args.block.now c.lines.start c.requires c.lines.invariant.passed)

pub overflow_add-first : goal.overflow_add-first
overflow_add-first g c = let high = (same_line _ _ (rw take_rest at c.sweep-sweep.ensures.stops) c.in-Some.ensures).0 in search rules

pub slice_bounds-search_after-count : goal.slice_bounds-search_after-count
slice_bounds-search_after-count g c = (same_line _ _ (rw take_rest at c.sweep-sweep.ensures.stops) c.in-Some.ensures).0

pub slice_bounds-search_after-start : goal.slice_bounds-search_after-start
slice_bounds-search_after-start g c = (same_line _ _ (rw take_rest at c.sweep-sweep.ensures.stops) c.in-Some.ensures).0

pub search_after-requires : goal.search_after-requires
search_after-requires g c = rw (c.sweep-sweep.ensures.same.same_expression, c.sweep-sweep.ensures.same.same_whole) (decided_at _ _ (rw take_rest at c.sweep-sweep.ensures.stops) c.in-Some.ensures)

pub returns-in_default-clause-reported : goal.returns-in_default-clause-reported
returns-in_default-clause-reported g c = none_next (λ (line : Text). Matches (g.M.Sweeps.expression c.args.matcher.now) line (g.M.Sweeps.whole c.args.matcher.now)) c.args.block.now _ c.requires (passed g (goal.at.returns-in_default-clause-reported g c).After-sweep-sweep) c.in_default.ensures

pub returns-in_default-clause-steps : goal.returns-in_default-clause-steps
returns-in_default-clause-steps g c =
    last_sweep _ c.lines.invariant.within (rw take_rest at c.sweep-sweep.ensures.passes) (rw take_rest at c.sweep-sweep.ensures.stops)
    c.lines.invariant.steps c.sweep-sweep.ensures.steps

pub returns-then-search_after-clause-reported : goal.returns-then-search_after-clause-reported
returns-then-search_after-clause-reported g c =
    next_from (λ (line : Text). Matches (g.M.Sweeps.expression c.args.matcher.now) line (g.M.Sweeps.whole c.args.matcher.now)) c.args.block.now _ c.in-Some.end c.in-Some.ensures (passed g (goal.at.returns-then-search_after-clause-reported g c).After-sweep-sweep)
    (rw (← c.lines.invariant.same.same_expression, ← c.lines.invariant.same.same_whole) ((same_line _ _ (rw take_rest at c.sweep-sweep.ensures.stops) c.in-Some.ensures).1.0 ((rw (c.sweep-sweep.ensures.same.same_expression, c.sweep-sweep.ensures.same.same_whole) at c.if-search_after.ensures.reported).0 refl)))

pub returns-then-search_after-clause-steps : goal.returns-then-search_after-clause-steps
returns-then-search_after-clause-steps g c =
    turn_adds _ _ (rw take_rest at c.sweep-sweep.ensures.stops) c.in-Some.ensures
    c.lines.invariant.steps c.sweep-sweep.ensures.steps c.search_after.ensures.steps

pub lines-preserved : goal.lines-preserved
lines-preserved g c =
    let i = c.lines.invariant in let cut = c.in-Some.ensures in
    let stops = rw take_rest at c.sweep-sweep.ensures.stops in
    record {
      within = omega arith;
      passed = passed_from (λ (line : Text). Matches (g.M.Sweeps.expression c.args.matcher.now) line (g.M.Sweeps.whole c.args.matcher.now)) c.args.block.now _ c.in-Some.end cut (passed g (goal.at.lines-preserved g c).After-sweep-sweep)
          (rw (← i.same.same_expression, ← i.same.same_whole) (λ holds. false≢true ((rw (c.sweep-sweep.ensures.same.same_expression, c.sweep-sweep.ensures.same.same_whole) at c.if-search_after.ensures.reported).1 ((same_line _ _ stops cut).1.1 holds))));
      same = same_twice c.search_after.ensures.same (same_twice c.sweep-sweep.ensures.same i.same);
      steps = turn_adds _ _ stops cut i.steps c.sweep-sweep.ensures.steps c.search_after.ensures.steps;
    }
