use Rattle.gaxtrel.proofs.{Prelude.{None, Some, refl}, ServedLemmas.{asked, next_served}}
use Rattle.gaxtrel.proofs.search.gaxtrel_next_line.Goals as goal

pub returns-in_default-found-clause-found : goal.returns-in_default-found-clause-found
returns-in_default-found-clause-found c = asked c.in-Some.ensures.taken c.deref_mut.ensures.value c.in-Patterns.is c.of.ensures.held c.next_line-found.ensures.same (λ sought serves. (c.reach-end.result, None, c.reach-end.ensures.reached, rw c.of.ensures.work (rw c.fresh_meter-meter.ensures at (next_served serves _ _ _ _ _ c.in_default-found.ensures.reported)), c.answer_for.ensures))

pub returns-clause-found : goal.returns-clause-found
returns-clause-found c = asked c.in-Some.ensures.taken c.deref_mut.ensures.value c.in-Patterns.is c.of.ensures.held c.next_line-found.ensures.same (λ sought serves. (c.reach-end.result, Some c.in-Some-found.at, c.reach-end.ensures.reached, rw c.of.ensures.work (rw c.fresh_meter-meter.ensures at (next_served serves _ _ _ _ _ c.in-Some-found.ensures.reported)), (refl, c.part_of.ensures)))
