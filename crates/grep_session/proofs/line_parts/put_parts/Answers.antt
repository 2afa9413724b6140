use Rattle.{re_meter.proofs.lemmas.Adding.adds_none, grep_session.proofs.lemmas.PartingLemmas.costs_search}
use Rattle.grep_session.proofs.line_parts.put_parts.Goals as goal

pub returns-in_err-spans-clause-steps : goal.returns-in_err-spans-clause-steps
returns-in_err-spans-clause-steps c = costs_search _ _ _ _ _ c.if-not-matched.false c.if-not-anew.false (rw c.line.ensures.line at c.parts_of.ensures.steps)

pub returns-clause-steps : goal.returns-clause-steps
returns-clause-steps c = costs_search _ _ _ _ _ c.if-not-matched.false c.if-not-anew.false (rw c.line.ensures.line at c.parts_of.ensures.steps)

pub returns-then-not-matched-clause-steps : goal.returns-then-not-matched-clause-steps
returns-then-not-matched-clause-steps c = adds_none _ _ _

pub returns-then-not-anew-clause-steps : goal.returns-then-not-anew-clause-steps
returns-then-not-anew-clause-steps c = adds_none _ _ _
