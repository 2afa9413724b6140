use Rattle.{grep_session.proofs.{Prelude.{ArePartsAgain, ◌≡◌, ◌+◌, ◌<◌, ◌||◌, false, length, map, get_or, ap, ◌∙◌, arith, get_or_default, line_text, no_line, is_paired, is_parted, numbers_at, parting, has_new_parts, marked_cost, AddsAtMost, matched_expression, has_own}, lemmas.{MarkedLemmas.{marked_front, marked_next}, PartingLemmas.{line_cost, parts_by, parts_next}}, line_parts.find_parts.Goals.After-put_parts}, re_meter.proofs.lemmas.Adding.adds_none, re_search.proofs.lemmas.KeptMatchers.{none_asked, same_over}}
use Rattle.grep_session.proofs.line_parts.find_parts.Goals as goal

pub returns-in_err-matched-clause-steps : goal.returns-in_err-matched-clause-steps
returns-in_err-matched-clause-steps c = adds_none _ _ _

pub returns-in_err-anew-clause-steps : goal.returns-in_err-anew-clause-steps
returns-in_err-anew-clause-steps c = adds_none _ _ _

pub loop-k-init : goal.loop-k-init
loop-k-init c = record {
  high = omega arith;
  few = omega (arith, ap length c.new-parts.ensures);
  found = λ i low. absurd (omega arith);
  same_matchers = none_asked;
  steps = adds_none _ _ _;
}

-- what the marks of the line stand for
matched_is : (c : After-put_parts) → c.index-in-loop-k.result.now ≡ is_paired c.loop-k.k c.args.new.now
matched_is c =
    let k = c.loop-k.k in
    let here : k < c.len-size.result = omega (arith, c.loop-k-test.true) in
    c.index-in-loop-k.ensures ∙ get_or_default c.in_ok-matched.matched.items k c.index-in-loop-k.result.now false (omega (arith, here, c.in_ok-matched.ensures.size)) ∙ c.in_ok-matched.ensures.marks k here

again_is : (c : After-put_parts) → (c.args.change.all_parts || c.index.result.now) ≡ has_new_parts c.args.change (numbers_at c.loop-k.k c.args.old.now) (numbers_at c.loop-k.k c.args.new.now)
again_is c =
    let k = c.loop-k.k in
    let here : k < c.len-size.result = omega (arith, c.loop-k-test.true) in
    let marks = c.add_marks_of.new.marks.items in
    let one = c.index.ensures ∙ get_or_default marks k c.index.result.now false (omega (arith, here, c.in_ok-anew.ensures.size, c.add_marks_of.ensures.size)) ∙ c.add_marks_of.ensures.marks k in
    ap (λ b. c.args.change.all_parts || b) (one ∙ ap (λ b. b || has_own c.args.change.first c.args.change.come (numbers_at k c.args.new.now)) (c.in_ok-anew.ensures.marks k here))

-- the steps up to here
spent : (c : After-put_parts) → AddsAtMost (marked_cost (is_parted c.args.change c.args.old.now c.args.new.now) (parting (map matched_expression c.args.matchers.now) c.args.search.now.options) (map line_text c.args.chunk.now) (c.loop-k.k + 1)) c.args.meter.now c.put_parts.new.meter
spent c =
    let s = c.loop-k.invariant in
    let many = parting (map matched_expression c.args.matchers.now) c.args.search.now.options in
    let last = rw s.same_matchers.same_expressions at c.put_parts.ensures.steps in
    marked_next (is_parted c.args.change c.args.old.now c.args.new.now) many (map line_text c.args.chunk.now) c.loop-k.k _ _ _ _ (line_cost (matched_is c) (again_is c) many c.args.chunk.now c.loop-k.k) s.steps last

pub loop-k-preserved : goal.loop-k-preserved
loop-k-preserved c =
    let s = c.loop-k.invariant in
    let es = map matched_expression c.args.matchers.now in
    let here = (goal.at.loop-k-preserved c).After-put_parts in
    let put = rw s.same_matchers.same_expressions at c.in_ok-put_parts.ensures.put in
    record {
      high = omega arith;
      few = c.in_ok-put_parts.ensures.few;
      found = parts_next (λ i. ArePartsAgain (is_paired i c.args.new.now) (has_new_parts c.args.change (numbers_at i c.args.old.now) (numbers_at i c.args.new.now)) es c.args.search.now.options (get_or c.args.chunk.now i no_line)) c.loop-k.k c.loop-k.parts c.put_parts.new.parts s.found c.in_ok-put_parts.ensures.others (parts_by (matched_is here) (again_is here) es c.args.search.now.options (get_or c.args.chunk.now c.loop-k.k no_line) _ put);
      same_matchers = same_over c.put_parts.ensures.same_matchers s.same_matchers;
      steps = spent here;
    }

pub returns-in_err-put_parts-clause-steps : goal.returns-in_err-put_parts-clause-steps
returns-in_err-put_parts-clause-steps c =
    marked_front _ _ _ (c.loop-k.k + 1) _ _ _ (omega arith) (spent (goal.at.returns-in_err-put_parts-clause-steps c).After-put_parts)

pub returns-clause-ok : goal.returns-clause-ok
returns-clause-ok c = λ k high asked. c.loop-k.invariant.found k (omega arith)

pub returns-clause-steps : goal.returns-clause-steps
returns-clause-steps c = marked_front _ _ _ _ _ _ _ c.loop-k.invariant.high c.loop-k.invariant.steps

pub returns-then-not-search-clause-steps : goal.returns-then-not-search-clause-steps
returns-then-not-search-clause-steps c = adds_none _ _ _
