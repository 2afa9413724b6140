use Rattle.re_auto.proofs.{Prelude.{true≢false, sym, ◌∙◌, expression_of, AreTablesOf}, lemmas.SetsByWords.nowhere_stays}
use Rattle.re_auto.proofs.step.automaton.Automaton.begins.Goals as goal

known : (c : goal.After-has) → AreTablesOf (expression_of c.args.self.now) c.self.inside.tables
known c = rw c.self.view_is at c.self.invariant

pub returns-clause-can : goal.returns-clause-can
returns-clause-can c = rw c.has.ensures ((known c).beginnings.1 c.args.byte c.ranges.byte.fits)

pub returns-clause-stays : goal.returns-clause-stays
returns-clause-stays c = λ cannot.
    nowhere_stays (expression_of c.args.self.now) c.args.byte (λ can. true≢false (sym (((known c).beginnings.1 c.args.byte c.ranges.byte.fits).1 can) ∙ sym c.has.ensures ∙ cannot))
