use Rattle.{grep_session.proofs.{Prelude.{◌≡◌, map, inl, inr, refl, sym, ap, subst, ◌∙◌, false≢true, Watched, if◌then◌else◌, Bool, Flag, Options, lost, kept_file, booleans_Decides, Inputs, read_as, SetFlag, option_of, with_option, inputs_of, parts_alone, all_lines, touched_by_flag, Ok, All, IsReadable, Applies}, lemmas.{AllPatternsRead.{sets_flag, applies_same, applies_flag}, StepLemmas.takes_none, SessionLemmas.inputs_are, FitLemmas.{fit_lose, given_flag}, EditLemmas.asked_session}, session.Session.set_flag.Goals.Else-get-on}, re_search.proofs.lemmas.KeptMatchers.none_asked}
use Rattle.grep_session.proofs.session.Session.set_flag.Goals as goal

-- the value is another
other : (c : Else-get-on) → option_of c.args.flag c.args.self.now.inputs.options ≡ c.args.on → ⊥
other c = λ e. false≢true (sym c.if-get-on.false ∙ (booleans_Decides c.get.result c.args.on).1 (c.get.ensures ∙ ap (λ (w : Watched). option_of c.args.flag w.inputs.options) c.self.view_is ∙ e))

as_set : {o : Options} {old new : Inputs} (flag : Flag) (on : Bool) → old ≡ new → o ≡ with_option flag on old.options → o ≡ with_option flag on new.options
as_set flag on same is = cc

pub returns-then-get-on-clause-gives : goal.returns-then-get-on-clause-gives
returns-then-get-on-clause-gives c =
    subst (λ old. Applies (SetFlag c.args.flag c.args.on) old (Ok old)) (inputs_are c.self.view_is) (applies_same c.args.flag c.args.on (inputs_of c.self.inside) (sym c.get.ensures ∙ (booleans_Decides c.get.result c.args.on).0 c.if-get-on.true) c.self.invariant.matchers.readable)

pub returns-in-Verdicts-clause-gives : goal.returns-in-Verdicts-clause-gives
returns-in-Verdicts-clause-gives c =
    let gives = rw (as_set c.args.flag c.args.on (inputs_are c.self.view_is) c.set.ensures) at c.read_again.ensures.gives in
    sets_flag c.args.flag c.args.on c.args.self.now.inputs c.read_again.new.self.inputs c.read_again.result (rw (ap (λ (i : Inputs). i.syntax) (inputs_are c.self.view_is)) at gives)

pub returns-in-Verdicts-clause-steps : goal.returns-in-Verdicts-clause-steps
returns-in-Verdicts-clause-steps c =
    let steps = rw
    (as_set c.args.flag c.args.on (inputs_are c.self.view_is) c.set.ensures) at c.read_again.ensures.steps in
    let all = rw
    (ap (λ (i : Inputs). i.syntax) (inputs_are c.self.view_is)) at steps in
    all (SetFlag c.args.flag c.args.on) (λ readable. inl (readable, refl)) (inr ((other (goal.at.returns-in-Verdicts-clause-steps c).Else-get-on), sym (c.in-Verdicts.ensures.touches c.args.self.now.inputs)))

pub returns-in-Parts-clause-gives : goal.returns-in-Parts-clause-gives
returns-in-Parts-clause-gives c =
    sets_flag c.args.flag c.args.on c.args.self.now.inputs c.part_again.new.self.inputs c.part_again.result (rw (as_set c.args.flag c.args.on (inputs_are c.self.view_is) c.set.ensures) at c.part_again.ensures.gives)

pub returns-in-Parts-clause-steps : goal.returns-in-Parts-clause-steps
returns-in-Parts-clause-steps c =
    let old = c.args.self.now.inputs in
    let readable = subst (λ (i : Inputs). All (IsReadable i.syntax i.options.ignore_case) i.patterns) (inputs_are c.self.view_is) c.self.invariant.matchers.readable in
    let case = subst (λ f. (with_option f c.args.on old.options).ignore_case ≡ old.options.ignore_case) (sym c.in-Parts.ensures.0) refl in
    let applies = subst (λ o. Applies (SetFlag c.args.flag c.args.on) old (Ok (read_as old.syntax o old))) (sym (as_set c.args.flag c.args.on (inputs_are c.self.view_is) c.set.ensures)) (applies_flag c.args.flag c.args.on old case readable) in
    let touches = subst (λ f. parts_alone (all_lines old) ≡ touched_by_flag f old) (sym c.in-Parts.ensures.0) refl in
    c.part_again.ensures.steps (SetFlag c.args.flag c.args.on) applies (inr ((other (goal.at.returns-in-Parts-clause-steps c).Else-get-on), touches))

pub returns-in-Output-clause-gives : goal.returns-in-Output-clause-gives
returns-in-Output-clause-gives c =
    let old = c.args.self.now.inputs in
    let readable = subst (λ (i : Inputs). All (IsReadable i.syntax i.options.ignore_case) i.patterns) (inputs_are c.self.view_is) c.self.invariant.matchers.readable in
    let applies = subst (λ o. Applies (SetFlag c.args.flag c.args.on) old (Ok (read_as old.syntax o old))) (sym (as_set c.args.flag c.args.on (inputs_are c.self.view_is) c.set.ensures)) (applies_flag c.args.flag c.args.on old (c.in-Output.ensures.0.same_case old.options) readable) in
    subst (λ n. Applies (SetFlag c.args.flag c.args.on) old (Ok n)) (sym c.put_options-in-Output.ensures.inputs) applies

pub returns-then-get-on-clause-steps : goal.returns-then-get-on-clause-steps
returns-then-get-on-clause-steps c = takes_none _ _ _

pub returns-in-Hits-clause-gives : goal.returns-in-Hits-clause-gives
returns-in-Hits-clause-gives c =
    let old = c.args.self.now.inputs in
    let readable = subst (λ (i : Inputs). All (IsReadable i.syntax i.options.ignore_case) i.patterns) (inputs_are c.self.view_is) c.self.invariant.matchers.readable in
    let applies = subst (λ o. Applies (SetFlag c.args.flag c.args.on) old (Ok (read_as old.syntax o old))) (sym (as_set c.args.flag c.args.on (inputs_are c.self.view_is) c.set.ensures)) (applies_flag c.args.flag c.args.on old (c.in-Hits.ensures.0.same_case old.options) readable) in
    let step = c.put_options.ensures.inputs ∙ ap (λ (i : Inputs). read_as i.syntax c.set.new.self i) (inputs_are c.self.view_is) in
    subst (λ n. Applies (SetFlag c.args.flag c.args.on) old (Ok n)) (sym step) applies

pub invariant_of-self : goal.invariant_of-self
invariant_of-self c =
    let s = c.self.inside in
    asked_session s _ refl refl c.self.invariant none_asked c.self.invariant.kept (fit_lose (map kept_file s.files.items) _ s.marks.items _ refl c.lose_all.ensures c.self.invariant.fit)

pub returns-then-get-on-clause-marks : goal.returns-then-get-on-clause-marks
returns-then-get-on-clause-marks c =
    let same = sym c.get.ensures ∙ (booleans_Decides c.get.result c.args.on).0 c.if-get-on.true in
    rw (← c.self.view_is) (inl (same, refl))

pub returns-in-Verdicts-clause-marks : goal.returns-in-Verdicts-clause-marks
returns-in-Verdicts-clause-marks c =
    given_flag c.args.flag c.args.on c.args.self.now c.read_again.new.self.marks c.read_again.result (other (goal.at.returns-in-Verdicts-clause-marks c).Else-get-on) c.in-Verdicts.ensures.changes c.read_again.ensures.marks

pub returns-in-Parts-clause-marks : goal.returns-in-Parts-clause-marks
returns-in-Parts-clause-marks c =
    given_flag c.args.flag c.args.on c.args.self.now c.part_again.new.self.marks c.part_again.result (other (goal.at.returns-in-Parts-clause-marks c).Else-get-on) (rw c.in-Parts.ensures.0 refl) c.part_again.ensures.marks

pub returns-in-Hits-clause-marks : goal.returns-in-Hits-clause-marks
returns-in-Hits-clause-marks c =
    inr ((other (goal.at.returns-in-Hits-clause-marks c).Else-get-on), c.put_options.ensures.marks ∙ c.lose_all.ensures ∙ ap (λ (w : Watched). map lost w.marks) c.self.view_is ∙ ap (λ b. if b then map lost c.args.self.now.marks else c.args.self.now.marks) (sym c.in-Hits.ensures.1))

pub returns-in-Output-clause-marks : goal.returns-in-Output-clause-marks
returns-in-Output-clause-marks c =
    inr ((other (goal.at.returns-in-Output-clause-marks c).Else-get-on), c.put_options-in-Output.ensures.marks ∙ ap (λ b. if b then map lost c.args.self.now.marks else c.args.self.now.marks) (sym c.in-Output.ensures.1))
