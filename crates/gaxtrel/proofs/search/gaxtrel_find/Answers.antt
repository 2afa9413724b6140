use Rattle.gaxtrel.proofs.ServedLemmas.{asked_line, part_served, stopped}
use Rattle.gaxtrel.proofs.search.gaxtrel_find.Goals as goal

pub returns-then-not-allows-clause-found : goal.returns-then-not-allows-clause-found
returns-then-not-allows-clause-found c = stopped c.args.line.now c.in-Some.ensures.taken c.deref_mut.ensures.value c.in-Patterns.is c.if-not-allows.ensures c.put_back-then-not-allows.ensures.answer c.put_back-then-not-allows.ensures.held c.put_back-then-not-allows.ensures.work

pub returns-clause-found : goal.returns-clause-found
returns-clause-found c = asked_line c.args.line.now c.in-Some.ensures.taken c.deref_mut.ensures.value c.in-Patterns.is c.if-not-allows.ensures c.of.ensures.held c.find-found.ensures.same c.fresh_meter-meter.ensures c.find-found.ensures.steps c.of.ensures.work (λ sought serves. (c.find-found.result, part_served serves c.args.line.now c.args.from c.find-found.result c.find-found.ensures.reported, c.put_found.ensures.tells))
