use Rattle.re_auto.proofs.Prelude.{arith, sym, ◌∙◌}
use Rattle.re_auto.proofs.step.automaton.Automaton.step.Goals as goal

pub only_word-requires : goal.only_word-requires
only_word-requires c = c.requires.from.0 ∙ sym (rw c.self.view_is at c.self.invariant).width ∙ c.if-self-eq1.true

pub step_word-word-requires-clause-one : goal.step_word-word-requires-clause-one
step_word-word-requires-clause-one c =
    let known = rw c.self.view_is at c.self.invariant in
    let is = sym known.width ∙ c.if-self-eq1.true in
    (omega arith, omega arith)

pub put_word-requires : goal.put_word-requires
put_word-requires c = c.requires.into ∙ c.requires.from.0 ∙ sym (rw c.self.view_is at c.self.invariant).width ∙ c.if-self-eq1.true
