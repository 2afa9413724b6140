use Rattle.re_auto.proofs.step.automaton.Automaton.ending.Goals as goal

pub returns-then-at_end : goal.returns-then-at_end
returns-then-at_end c =
    let known = rw c.self.view_is at c.self.invariant in
    rw (c.deref.ensures.value, c.if-at_end.true) (rw known.width at known.last_at_end)

pub returns : goal.returns
returns c =
    let known = rw c.self.view_is at c.self.invariant in
    rw (c.deref-2.ensures.value, c.if-at_end.false) (rw known.width at known.last_inside)
