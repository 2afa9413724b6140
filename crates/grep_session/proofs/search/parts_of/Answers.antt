use Rattle.{grep_session.proofs.{Prelude.{length, map, arith, sym, length-map, matched_expression, wants_whole}, lemmas.FindingLemmas.{asked_cost, spans_none, spans_next, spans_done}}, re_meter.proofs.lemmas.Adding.adds_none, re_search.proofs.lemmas.{KeptMatchers.{none_asked, same_over}, LinePartsLaws.all_parts}, grep_core.proofs.lemmas.CostLaws.same_length}
use Rattle.grep_session.proofs.search.parts_of.Goals as goal

pub loop-part-init : goal.loop-part-init
loop-part-init c = record {
  parts = spans_none _ _ _ (c.new-spans.ensures.items) (omega arith);
  room = omega arith;
  right = c.begin.ensures.right _ _ _;
  steps = adds_none _ _ _;
  same_matchers = none_asked;
}

pub next_part-requires-clause-within : goal.next_part-requires-clause-within
next_part-requires-clause-within c = c.loop-part.invariant.parts.on_line

pub next_part-requires-clause-alike : goal.next_part-requires-clause-alike
next_part-requires-clause-alike c = rw c.loop-part.invariant.same_matchers.same_wholes c.requires.whole

pub next_part-requires-clause-right : goal.next_part-requires-clause-right
next_part-requires-clause-right c = rw c.loop-part.invariant.same_matchers.same_expressions c.loop-part.invariant.right

pub loop-part-smaller : goal.loop-part-smaller
loop-part-smaller c =
    let found = c.in-Some.ensures.reported.found in
    omega arith

pub loop-part-preserved : goal.loop-part-preserved
loop-part-preserved c =
    let i = c.loop-part.invariant in
    let es = map matched_expression c.args.matchers.now in
    let reported = rw i.same_matchers.same_expressions at c.in-Some.ensures.reported in
    let many = same_length wants_whole c.loop-part.matchers c.args.matchers.now i.same_matchers.same_wholes in
    record {
      parts = rw c.in_ok-push.ensures.items (spans_next es _ _ _ _ _ i.parts reported);
      room = omega arith;
      right = rw i.same_matchers.same_expressions at c.in-Some.ensures.right;
      steps = (rw many at c.next_part.ensures.steps) c.args.meter.now i.steps;
      same_matchers = same_over c.next_part.ensures.same_matchers i.same_matchers;
    }

pub returns-clause-ok : goal.returns-clause-ok
returns-clause-ok c =
    let reported = rw c.loop-part.invariant.same_matchers.same_expressions at c.in_default.ensures.reported in
    rw c.if-not-search.false (spans_done _ c.args.search.now.options _ _ c.loop-part.invariant.parts reported)

pub returns-clause-steps : goal.returns-clause-steps
returns-clause-steps c =
    let i = c.loop-part.invariant in
    let many = same_length wants_whole c.loop-part.matchers c.args.matchers.now i.same_matchers.same_wholes in
    let taken = (rw many at c.next_part.ensures.steps) c.args.meter.now i.steps in
    asked_cost (map matched_expression c.args.matchers.now) c.args.search.now.options c.args.line.now c.if-not-search.false (length c.args.matchers.now) _ _ (sym (length-map c.args.matchers.now matched_expression)) (all_parts _ _ _ _ _ c.next_part.ensures.seen taken)

pub returns-in_err-push-clause-steps : goal.returns-in_err-push-clause-steps
returns-in_err-push-clause-steps c =
    let i = c.loop-part.invariant in
    let many = same_length wants_whole c.loop-part.matchers c.args.matchers.now i.same_matchers.same_wholes in
    let taken = (rw many at c.next_part.ensures.steps) c.args.meter.now i.steps in
    asked_cost (map matched_expression c.args.matchers.now) c.args.search.now.options c.args.line.now c.if-not-search.false (length c.args.matchers.now) _ _ (sym (length-map c.args.matchers.now matched_expression)) (all_parts _ _ _ _ _ c.next_part.ensures.seen taken)

pub returns-then-not-search-clause-steps : goal.returns-then-not-search-clause-steps
returns-then-not-search-clause-steps c = adds_none _ _ _

pub returns-in_err-make_room-clause-steps : goal.returns-in_err-make_room-clause-steps
returns-in_err-make_room-clause-steps c = adds_none _ _ _
