use Rattle.re_auto.proofs.step.automaton.Automaton.beginning.Goals as goal

pub returns-then-at_begin : goal.returns-then-at_begin
returns-then-at_begin c =
    let known = rw c.self.view_is at c.self.invariant in
    rw (c.deref.ensures.value, c.if-at_begin.true) (rw known.width at known.first_at_begin)

pub returns : goal.returns
returns c =
    let known = rw c.self.view_is at c.self.invariant in
    rw (c.deref-2.ensures.value, c.if-at_begin.false) (rw known.width at known.first_inside)
