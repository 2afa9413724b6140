use Rattle.grep_session.proofs.{Prelude.{◌≡◌, Ok, inl, inr, refl, sym, ap, ◌∙◌, SetSyntax, inputs_of}, lemmas.{AllPatternsRead.sets_syntax, StepLemmas.takes_none, SessionLemmas.inputs_are, FitLemmas.given_syntax}}
use Rattle.grep_session.proofs.session.Session.set_syntax.Goals as goal

pub returns-then-is_same-clause-gives : goal.returns-then-is_same-clause-gives
returns-then-is_same-clause-gives c =
    let old = inputs_of c.self.inside in
    let same : c.args.syntax ≡ old.syntax = c.if-is_same.ensures in
    rw (← c.self.view_is) (inl (rw same c.self.invariant.matchers.readable, ap (λ syntax. Ok (record old { syntax = syntax })) (sym same)))

pub returns-clause-gives : goal.returns-clause-gives
returns-clause-gives c =
    let same : c.read_again.inside.options ≡ c.args.self.now.inputs.options = rw (← inputs_are c.read_again.view_is) in
    sets_syntax c.args.syntax c.args.self.now.inputs c.read_again-2.new.self.inputs c.read_again-2.result (rw same at c.read_again-2.ensures.gives)

pub returns-clause-steps : goal.returns-clause-steps
returns-clause-steps c =
    let same : c.read_again.inside.options ≡ c.args.self.now.inputs.options = rw (← inputs_are c.read_again.view_is) in
    let steps = rw same at c.read_again-2.ensures.steps in
    let other : c.args.syntax ≡ c.args.self.now.inputs.syntax → ⊥ = λ e. c.if-is_same.ensures (e ∙ rw (← inputs_are c.self.view_is)) in
    steps (SetSyntax c.args.syntax) (λ readable. inl (readable, refl)) (inr (other, refl))

pub returns-then-is_same-clause-steps : goal.returns-then-is_same-clause-steps
returns-then-is_same-clause-steps c = takes_none _ _ _

pub returns-then-is_same-clause-marks : goal.returns-then-is_same-clause-marks
returns-then-is_same-clause-marks c = rw (← c.self.view_is) (inl (c.if-is_same.ensures, refl))

pub returns-clause-marks : goal.returns-clause-marks
returns-clause-marks c =
    let other : c.args.syntax ≡ c.args.self.now.inputs.syntax → ⊥ = λ e. c.if-is_same.ensures (e ∙ rw (← c.self.view_is)) in
    given_syntax c.args.syntax c.args.self.now c.read_again-2.new.self.marks c.read_again-2.result other c.read_again-2.ensures.marks
