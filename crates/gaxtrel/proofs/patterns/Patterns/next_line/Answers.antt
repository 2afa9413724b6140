use Rattle.gaxtrel.proofs.{Prelude.{◌∙◌, None, Some, ap, arith, sought_of, take_rest, sought_in}, KeptLemmas.still_right, TextLemmas.{none_past, line_found}}
use Rattle.gaxtrel.proofs.patterns.Patterns.next_line.Goals as goal

pub invariant_of-self : goal.invariant_of-self
invariant_of-self c = still_right _ _ _ _ _ c.next_in_text-found.ensures.same c.deref_mut.ensures.value c.deref_mut.ensures.len c.self.invariant

pub invariant_of-self-2 : goal.invariant_of-self-2
invariant_of-self-2 c = still_right _ _ _ _ _ c.next_in_text-found.ensures.same c.deref_mut.ensures.value c.deref_mut.ensures.len c.self.invariant

pub returns-then-from-text-clause-reported : goal.returns-then-from-text-clause-reported
returns-then-from-text-clause-reported c = none_past _ _ _ _ (omega (arith, c.if-from-text.true))

pub returns-in_default-clause-reported : goal.returns-in_default-clause-reported
returns-in_default-clause-reported c =
    let same = ap (sought_of c.self.inside.whole) c.deref_mut.ensures.value ∙ ap sought_in c.self.view_is in
    line_found _ _ _ _ _ None _ _ same (take_rest c.args.text.now c.args.from) c.in_default.ensures.reported c.in_default.ensures.steps

pub returns-clause-reported : goal.returns-clause-reported
returns-clause-reported c =
    let same = ap (sought_of c.self.inside.whole) c.deref_mut.ensures.value ∙ ap sought_in c.self.view_is in
    line_found _ _ _ _ _ (Some c.in-Some.at) _ _ same (take_rest c.args.text.now c.args.from) c.in-Some.ensures.reported c.in-Some.ensures.steps
