use Rattle.{gaxtrel.proofs.{Prelude.{arith, refl, ap, ◌≡◌, ◌∙◌, ◌+◌, ◌-◌, take, drop, length-drop, take_rest, IsSought, sought_of}, TextLemmas.no_line_left, LineLemmas.{no_more, no_room, one_line, searched, within_text}}, re_search.proofs.lemmas.KeptMatchers.same_over, grep_io.proofs.lemmas.PassedLemmas.count_lines}
use Rattle.gaxtrel.proofs.text_lines.put_lines.Goals as goal

pub returns-then-at-text-clause-put : goal.returns-then-at-text-clause-put
returns-then-at-text-clause-put c =
    let i = c.loop-count.invariant in
    no_more _ _ _ _ i.found _ c.loop-count.auto.lines _ c.loop-count-test.true (no_line_left (IsSought (sought_of c.args.whole c.args.matchers.now)) c.args.text.now _ (omega (arith, c.if-at-text.true))) (within_text _ _ _ _ i.found _ _ _ i.found.near i.steps)

pub returns-in_default-clause-put : goal.returns-in_default-clause-put
returns-in_default-clause-put c =
    let i = c.loop-count.invariant in
    let rest = take_rest c.args.text.now c.loop-count.at in
    no_more _ _ _ _ i.found _ c.loop-count.auto.lines _ c.loop-count-test.true (rw (i.same.same_expressions, rest) at c.in_default.ensures.reported)
    (within_text _ _ _ _ i.found _ _ _ (omega (arith, length-drop c.loop-count.at c.args.text.now, c.if-at-text.false, i.found.low)) (searched _ _ _ _ i.found _ _ _ _ i.steps (rw (i.same.same_expressions, rest) at c.in_default.ensures.steps)))

pub loop-count-preserved : goal.loop-count-preserved
loop-count-preserved c =
    let i = c.loop-count.invariant in
    let rest = take_rest c.args.text.now c.loop-count.at in
    let width : c.loop-count.at + c.in-Some.next.start - c.loop-count.at ≡ c.in-Some.next.start = omega arith in
    record {
      found = one_line _ _ _ _ i.found c.in-Some.next (rw (i.same.same_expressions, rest) at c.in-Some.ensures.reported) c.count_newlines.result (λ ts free is. c.count_newlines.ensures ∙ count_lines _ ts free (ap (λ w. take w (drop c.loop-count.at c.args.text.now)) width ∙ is))
          (omega (arith, c.if-at-text.false)) (rw rest at c.in-Some.ensures.within.1) c.loop-count-test.true _ _ _ c.saturating_add-number.ensures c.saturating_add-number-in-loop-count.ensures refl;
      same = same_over c.next_in_text.ensures.same i.same;
      steps = searched _ _ _ _ i.found _ _ _ _ i.steps (rw i.same.same_expressions at c.in-Some.ensures.steps);
    }

pub returns-clause-put : goal.returns-clause-put
returns-clause-put c =
    let i = c.loop-count.invariant in
    no_room _ _ _ _ i.found _ c.loop-count.auto.lines _ c.loop-count-test.false i.steps
