use Rattle.re_auto.proofs.{Prelude.{expression_of, part_of, IsAccepting}, lemmas.SetsByWords.{accepted, matched_by}}
use Rattle.re_auto.proofs.step.automaton.Automaton.accepts.Goals as goal

pub returns-clause-reported : goal.returns-clause-reported
unfolding IsAccepting
returns-clause-reported c = accepted (part_of (expression_of c.args.self.now) 0) c.args.mode _ _ _ _ _ _ (rw c.deref.ensures.value at c.has_last-longer.ensures) c.may_begin-may_begin.ensures c.is_empty-empty.ensures

pub returns-clause-matched : goal.returns-clause-matched
returns-clause-matched c = matched_by (expression_of c.args.self.now) c.args.mode _ c.args.at_end c.args.set.now (returns-clause-reported c)
