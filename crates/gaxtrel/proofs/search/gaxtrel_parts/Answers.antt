use Rattle.gaxtrel.proofs.{Prelude.{inl, inr, refl, rules}, ServedLemmas.{asked_line, parts_served, stopped}}
use Rattle.gaxtrel.proofs.search.gaxtrel_parts.Goals as goal

pub returns-then-not-allows-clause-found : goal.returns-then-not-allows-clause-found
returns-then-not-allows-clause-found c = stopped c.args.line.now c.in-Some.ensures.taken c.deref_mut.ensures.value c.in-Patterns.is c.if-not-allows.ensures c.put_back-then-not-allows.ensures.answer c.put_back-then-not-allows.ensures.held c.put_back-then-not-allows.ensures.work

pub returns-in_default-found-clause-found : goal.returns-in_default-found-clause-found
returns-in_default-found-clause-found c = asked_line c.args.line.now c.in-Some.ensures.taken c.deref_mut.ensures.value c.in-Patterns.is c.if-not-allows.ensures c.of.ensures.held c.parts-found.ensures.same c.fresh_meter-meter.ensures c.parts-found.ensures.steps c.of.ensures.work (λ sought serves. inl (refl, search rules))

pub returns-clause-found : goal.returns-clause-found
returns-clause-found c = asked_line c.args.line.now c.in-Some.ensures.taken c.deref_mut.ensures.value c.in-Patterns.is c.if-not-allows.ensures c.of.ensures.held c.parts-found.ensures.same c.fresh_meter-meter.ensures c.parts-found.ensures.steps c.of.ensures.work (λ sought serves. inr (c.some.ensures, parts_served serves c.args.line.now c.args.from c.args.parts.now c.parts-found.new.parts c.in-Ok.found c.in-Ok.ensures.put))
