use Rattle.{grep_session.proofs.{Prelude.{◌≡◌, ◌+◌, ◌-◌, ◌<◌, length, map, take, sym, ◌∙◌, length-take, arith, length-map, drop_all, line_text, is_sought, marked_cost, matched_expression, wants_whole}, lemmas.ColumnLoops.{columns_none, columns_next}}, re_search.proofs.lemmas.{KeptMatchers.{none_asked, one_kept}, OneMatcherMore.{one_more, value_at, within}}, re_meter.proofs.lemmas.Adding.adds_none, grep_core.proofs.lemmas.CostLaws.{adds_for_more, adds_once_more}}
use Rattle.grep_session.proofs.line_matches.find_matches.Goals as goal

pub loop-number-init : goal.loop-number-init
loop-number-init c =
    let first = c.args.change.first in
    let es = map matched_expression c.args.matchers.now in
    let texts = map line_text c.args.chunk.now in
    let entire = c.args.search.now.options.line_regexp in
    let sought = is_sought c.args.change c.args.old.now in
    let d = rw (c.saturating_sub-fewer.ensures, c.in_ok-matches.ensures) at c.drop_numbers.ensures in
    let none = drop_all first (take first es) (omega (arith, length-take first es)) in
    record {
      low = omega arith;
      high = omega arith;
      found = (c.drop_numbers.new.self, record { within = d.within (length texts) (rw (length-map c.args.chunk.now line_text) c.requires.below); numbers = d.numbers; same = d.same }, rw none (columns_none sought _ _ _ _));
      same_matchers = none_asked;
      steps = adds_none _ _ _;
    }

pub loop-number-preserved : goal.loop-number-preserved
loop-number-preserved c =
    let s = c.loop-number.invariant in
    let same = s.same_matchers in
    let old = c.args.matchers.now in
    let now = c.loop-number.matchers in
    let k = c.loop-number.number in
    let d = c.index-matchers-number.result in
    let h : k < length old = omega arith in
    let entire = c.args.search.now.options.line_regexp in
    let texts = map line_text c.args.chunk.now in
    let first = c.args.change.first in
    let sought = is_sought c.args.change c.args.old.now in
    let asks = sym (value_at wants_whole old now same.same_wholes k d h entire) ∙ c.requires.whole k entire (within wants_whole old now same.same_wholes k d h).1 in
    let there = (within matched_expression old now same.same_expressions k d h).1 in
    let next : k - first + 1 ≡ k + 1 - first = omega arith in
    let cost = marked_cost sought 1 texts (length c.args.chunk.now) in
    record {
      low = omega arith;
      high = omega arith;
      found = (
        s.found.0,
        s.found.1,
        columns_next sought _ _ _ k _ _ _ s.low there (one_more matched_expression old now same.same_expressions k d h) s.found.2
            (rw asks at c.in_ok-add_column.ensures.ok),
      );
      same_matchers = one_kept same k d _ c.add_column.ensures.same;
      steps = rw next at (adds_once_more (k - first) cost _ _ _ s.steps c.add_column.ensures.steps);
    }

pub returns-in_err-add_column-clause-same_matchers : goal.returns-in_err-add_column-clause-same_matchers
returns-in_err-add_column-clause-same_matchers c = one_kept c.loop-number.invariant.same_matchers c.loop-number.number c.index-matchers-number.result _ c.add_column.ensures.same

pub returns-in_err-add_column-clause-steps : goal.returns-in_err-add_column-clause-steps
returns-in_err-add_column-clause-steps c =
    let done = c.loop-number.number - c.args.change.first in
    adds_for_more (done + 1) c.args.change.come _ _ _ (omega arith) (adds_once_more done _ _ _ _ c.loop-number.invariant.steps c.add_column.ensures.steps)

pub returns-clause-ok : goal.returns-clause-ok
returns-clause-ok c =
    let s = c.loop-number.invariant in
    let reached : c.loop-number.number ≡ c.args.change.first + c.args.change.come = omega arith in
    record {
      left = s.found.0;
      are_left = s.found.1;
      adds = rw reached at s.found.2;
    }

pub returns-clause-steps : goal.returns-clause-steps
returns-clause-steps c =
    adds_for_more (c.loop-number.number - c.args.change.first) c.args.change.come _ _ _ (omega arith) c.loop-number.invariant.steps
