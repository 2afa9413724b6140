use Rattle.gaxtrel.proofs.ServedLemmas.{asked, cost_served, count_served}
use Rattle.gaxtrel.proofs.search.gaxtrel_count_lines.Goals as goal

pub returns-clause-counted : goal.returns-clause-counted
returns-clause-counted c = asked c.in-Some.ensures.taken c.deref_mut.ensures.value c.in-Patterns.is c.of.ensures.held c.count_lines-counted.ensures.same (λ sought serves. (c.reach-end.result, c.reach-end.ensures.reached, rw c.of.ensures.work (rw c.fresh_meter-meter.ensures at (cost_served serves _ _ _ c.count_lines-counted.ensures.steps)), count_served serves _ _ c.count_lines-counted.ensures.reported, c.answer_for.ensures))
