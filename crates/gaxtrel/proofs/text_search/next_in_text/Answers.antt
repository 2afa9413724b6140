use Rattle.{gaxtrel.proofs.{Prelude.{refl, sym, arith, false≢true, length-take-le, sought_of}, TextLemmas.{cut_within, front_cost, last_cost, next_at_last, next_in_front, none_at_last, none_in_front}}, re_search.proofs.lemmas.KeptMatchers.same_sought}
use Rattle.gaxtrel.proofs.text_search.next_in_text.Goals as goal

pub slice_bounds-next_matched-end : goal.slice_bounds-next_matched-end
slice_bounds-next_matched-end c = sym (length-take-le c.last_line-cut.result c.args.text.now (cut_within _ _ c.last_line-cut.ensures.lines))

pub returns-in-Some-clause-reported : goal.returns-in-Some-clause-reported
returns-in-Some-clause-reported c = next_in_front _ _ c.last_line-cut.ensures.lines _ _ c.in-Some.ensures.reported

pub returns-then-cut-text-clause-reported : goal.returns-then-cut-text-clause-reported
returns-then-cut-text-clause-reported c = none_in_front _ _ c.last_line-cut.ensures.lines _ (omega (arith, c.if-cut-text.true)) c.in_default.ensures.reported

pub returns-then-cut-text-clause-steps : goal.returns-then-cut-text-clause-steps
returns-then-cut-text-clause-steps c = front_cost _ _ c.last_line-cut.ensures.lines (sought_of c.args.whole c.args.matchers.now) _ _ c.in_default.ensures.steps

pub returns-then-is_matched-clause-reported : goal.returns-then-is_matched-clause-reported
returns-then-is_matched-clause-reported c = next_at_last _ _ c.last_line-cut.ensures.lines _ _ (same_sought c.next_matched-found.ensures.same_matchers) c.last_line-cut.ensures.last (omega (arith, c.if-cut-text.false)) c.in_default.ensures.reported (c.if-is_matched.ensures.reported.0 refl)

pub returns-then-is_matched-clause-steps : goal.returns-then-is_matched-clause-steps
returns-then-is_matched-clause-steps c = last_cost _ _ c.last_line-cut.ensures.lines (sought_of c.args.whole c.args.matchers.now) _ (same_sought c.next_matched-found.ensures.same_matchers) _ _ _ c.in_default.ensures.steps c.is_matched.ensures.steps

pub returns-clause-reported : goal.returns-clause-reported
returns-clause-reported c = none_at_last _ _ c.last_line-cut.ensures.lines _ _ (same_sought c.next_matched-found.ensures.same_matchers) c.last_line-cut.ensures.last (omega (arith, c.if-cut-text.false)) c.in_default.ensures.reported (λ holds. false≢true (c.if-is_matched.ensures.reported.1 holds))

pub returns-clause-steps : goal.returns-clause-steps
returns-clause-steps c = last_cost _ _ c.last_line-cut.ensures.lines (sought_of c.args.whole c.args.matchers.now) _ (same_sought c.next_matched-found.ensures.same_matchers) _ _ _ c.in_default.ensures.steps c.is_matched.ensures.steps

pub returns-in-Some-clause-within : goal.returns-in-Some-clause-within
returns-in-Some-clause-within c =
    let within = cut_within c.args.text.now c.last_line-cut.result c.last_line-cut.ensures.lines in
    (c.in-Some.ensures.within.0, omega (arith, c.in-Some.ensures.within.1, length-take-le c.last_line-cut.result c.args.text.now within))
