use Rattle.re_auto.proofs.step.automaton.Automaton.is_empty.Goals as goal

pub returns-in-true-true : goal.returns-in-true-true
returns-in-true-true c = rw (c.in-true-true.is-0, c.in-true-true.is-1) (rw c.self.view_is at c.self.invariant).empty.on_empty_line

pub returns-in-true-false : goal.returns-in-true-false
returns-in-true-false c = rw (c.in-true-false.is-0, c.in-true-false.is-1) (rw c.self.view_is at c.self.invariant).empty.at_begin

pub returns-in-false-true : goal.returns-in-false-true
returns-in-false-true c = rw (c.in-false-true.is-0, c.in-false-true.is-1) (rw c.self.view_is at c.self.invariant).empty.at_end

pub returns-in-false-false : goal.returns-in-false-false
returns-in-false-false c = rw (c.in-false-false.is-0, c.in-false-false.is-1) (rw c.self.view_is at c.self.invariant).empty.inside
