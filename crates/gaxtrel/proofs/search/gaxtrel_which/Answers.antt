use Rattle.gaxtrel.proofs.{Prelude.{inl, inr, refl, rules}, ServedLemmas.{asked_line, numbers_served, stopped}}
use Rattle.gaxtrel.proofs.search.gaxtrel_which.Goals as goal

pub returns-then-not-allows-clause-found : goal.returns-then-not-allows-clause-found
returns-then-not-allows-clause-found c = stopped c.args.line.now c.in-Some.ensures.taken c.deref_mut.ensures.value c.in-Patterns.is c.if-not-allows.ensures c.put_back-then-not-allows.ensures.answer c.put_back-then-not-allows.ensures.held c.put_back-then-not-allows.ensures.work

pub returns-in_default-found-clause-found : goal.returns-in_default-found-clause-found
returns-in_default-found-clause-found c = asked_line c.args.line.now c.in-Some.ensures.taken c.deref_mut.ensures.value c.in-Patterns.is c.if-not-allows.ensures c.of.ensures.held c.which-found.ensures.same c.fresh_meter-meter.ensures c.which-found.ensures.steps c.of.ensures.work (λ sought serves. inl (c.in_default-found.ensures.put.0, refl, search rules))

pub returns-clause-found : goal.returns-clause-found
returns-clause-found c = asked_line c.args.line.now c.in-Some.ensures.taken c.deref_mut.ensures.value c.in-Patterns.is c.if-not-allows.ensures c.of.ensures.held c.which-found.ensures.same c.fresh_meter-meter.ensures c.which-found.ensures.steps c.of.ensures.work (λ sought serves. inr (c.in-Some-found.ensures.put.0, c.some.ensures, numbers_served serves c.in-Some-found.ensures.put.0 c.args.line.now c.args.numbers.now c.which-found.new.numbers c.in-Some-found.found c.in-Some-found.ensures.put.1))
