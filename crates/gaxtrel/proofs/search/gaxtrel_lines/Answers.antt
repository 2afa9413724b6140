use Rattle.gaxtrel.proofs.{Prelude.{arith, inl, inr}, KeptLemmas.less_of, ServedLemmas.{asked, lines_served}}
use Rattle.gaxtrel.proofs.search.gaxtrel_lines.Goals as goal

pub returns-then-found-lines-clause-found : goal.returns-then-found-lines-clause-found
returns-then-found-lines-clause-found c = asked c.in-Some.ensures.taken c.deref_mut.ensures.value c.in-Patterns.is c.of.ensures.held c.lines-found.ensures.same (λ sought serves. (c.reach-end.result, c.reach-end.ensures.reached, rw c.of.ensures.work (rw c.fresh_meter-meter.ensures at (lines_served serves _ c.args.from c.args.number c.lines-found.result c.args.lines.now c.lines-found.new.lines _ _ c.lines-found.ensures.put)), inl (omega (arith, c.if-found-lines.true, c.lines-found.auto.lines), c.some.ensures)))

pub returns-clause-found : goal.returns-clause-found
returns-clause-found c = asked c.in-Some.ensures.taken c.deref_mut.ensures.value c.in-Patterns.is c.of.ensures.held c.lines-found.ensures.same (λ sought serves. (c.reach-end.result, c.reach-end.ensures.reached, rw c.of.ensures.work (rw c.fresh_meter-meter.ensures at (lines_served serves _ c.args.from c.args.number c.lines-found.result c.args.lines.now c.lines-found.new.lines _ _ c.lines-found.ensures.put)), inr (less_of _ _ (omega (arith, c.lines-found.ensures.put.counted)) (λ e. c.if-found-lines.false (omega (arith, e, c.lines-found.auto.lines))), c.answer_for.ensures)))
