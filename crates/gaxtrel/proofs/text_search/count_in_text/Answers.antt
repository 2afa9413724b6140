use Rattle.{gaxtrel.proofs.{Prelude.{refl, sym, arith, false≢true, length-take-le, sought_of}, TextLemmas.{counts_front, counts_last, counts_without, cut_within, few_counted, front_cost, last_cost}}, re_search.proofs.lemmas.KeptMatchers.same_sought}
use Rattle.gaxtrel.proofs.text_search.count_in_text.Goals as goal

pub slice_bounds-count_matched-end : goal.slice_bounds-count_matched-end
slice_bounds-count_matched-end c = sym (length-take-le c.last_line-cut.result c.args.text.now (cut_within _ _ c.last_line-cut.ensures.lines))

pub overflow_add-result : goal.overflow_add-result
overflow_add-result c = let few = few_counted c.args.text.now c.last_line-cut.result c.last_line-cut.ensures.lines _ _ c.count_matched-count.ensures.reported in omega (arith, c.if-cut-text.false)

pub returns-then-cut-text-clause-steps : goal.returns-then-cut-text-clause-steps
returns-then-cut-text-clause-steps c = front_cost _ _ c.last_line-cut.ensures.lines (sought_of c.args.whole c.args.matchers.now) _ _ c.count_matched-count.ensures.steps

pub returns-then-is_matched-clause-reported : goal.returns-then-is_matched-clause-reported
returns-then-is_matched-clause-reported c = counts_last _ _ c.last_line-cut.ensures.lines _ _ (same_sought c.count_matched-count.ensures.same_matchers) _ c.last_line-cut.ensures.last (omega (arith, c.if-cut-text.false)) (c.if-is_matched.ensures.reported.0 refl) c.count_matched-count.ensures.reported

pub returns-then-is_matched-clause-steps : goal.returns-then-is_matched-clause-steps
returns-then-is_matched-clause-steps c = last_cost _ _ c.last_line-cut.ensures.lines (sought_of c.args.whole c.args.matchers.now) _ (same_sought c.count_matched-count.ensures.same_matchers) _ _ _ c.count_matched-count.ensures.steps c.is_matched.ensures.steps

pub returns-clause-reported : goal.returns-clause-reported
returns-clause-reported c = counts_without _ _ c.last_line-cut.ensures.lines _ _ (same_sought c.count_matched-count.ensures.same_matchers) _ c.last_line-cut.ensures.last (omega (arith, c.if-cut-text.false)) (λ holds. false≢true (c.if-is_matched.ensures.reported.1 holds)) c.count_matched-count.ensures.reported

pub returns-clause-steps : goal.returns-clause-steps
returns-clause-steps c = last_cost _ _ c.last_line-cut.ensures.lines (sought_of c.args.whole c.args.matchers.now) _ (same_sought c.count_matched-count.ensures.same_matchers) _ _ _ c.count_matched-count.ensures.steps c.is_matched.ensures.steps

pub returns-then-cut-text-clause-reported : goal.returns-then-cut-text-clause-reported
returns-then-cut-text-clause-reported c = counts_front _ _ c.last_line-cut.ensures.lines _ _ (omega (arith, c.if-cut-text.true)) c.count_matched-count.ensures.reported
