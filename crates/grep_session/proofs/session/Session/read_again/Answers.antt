use Rattle.{grep_session.proofs.{Prelude.{◌≡◌, Ok, refl, length, length-map, map, matched_expression, anew, arith, inl, sym, ap, ◌∙◌, Edit, Applies, Touches, TakesSteps, AreReadable, searched_by, read_as, inputs_of, all_lines, Err, subst, ReadsAgain}, lemmas.{EditLemmas.{left_session, searched_session}, AllPatternsRead.refuses_again, ChangeLemmas.all_anew, StepLemmas.{takes_lines, takes_none}, SessionLemmas.inputs_are}, session.Session.read_again.Goals.After-find_columns}, re_search.proofs.lemmas.KeptMatchers.none_asked}
use Rattle.grep_session.proofs.session.Session.read_again.Goals as goal

-- all patterns went, and others came
again : (c : After-find_columns) → c.anew-change.result ≡ anew (length (map matched_expression c.self.inside.matchers.items)) (length (map matched_expression c.in-Ok.matchers.items))
again c =
    let old : c.len.result ≡ length (map matched_expression c.self.inside.matchers.items) = omega (arith, length-map c.self.inside.matchers.items matched_expression) in
    let new : c.len-2.result ≡ length (map matched_expression c.in-Ok.matchers.items) = omega (arith, length-map c.in-Ok.matchers.items matched_expression) in
    c.anew-change.ensures ∙ (λ i. anew (old i) (new i))

steps : (c : After-find_columns) → let old = inputs_of c.self.inside in (edit : Edit) → (AreReadable c.args.syntax c.args.options old → Applies edit old (Ok (read_as c.args.syntax c.args.options old))) → Touches edit old (searched_by (length old.patterns) (all_lines old)) → TakesSteps edit old c.args.meter.now c.find_columns.new.meter
steps c = λ edit applies touches.
    let s = c.self.inside in
    let old = inputs_of s in
    let made = rw c.deref.ensures.value at c.in-Ok.ensures.ok in
    let searched = rw (again c) at c.find_columns.ensures.steps in
    takes_lines edit old (read_as c.args.syntax c.args.options old) _ _ c.in-Ok.matchers.items (all_lines old) _ _ (applies made.readable) touches made refl (searched (all_anew (map matched_expression s.matchers.items) _ s.options c.args.options) c.self.invariant.kept)

pub returns-in-Err-clause-gives : goal.returns-in-Err-clause-gives
returns-in-Err-clause-gives c =
    let refused = rw c.deref.ensures.value at c.in-Err.ensures.err in
    subst (λ old. ReadsAgain {T = Unit {0}} c.args.syntax c.args.options old old (Err c.in-Err.fault)) (inputs_are c.self.view_is) (refuses_again (Unit {0}) c.args.syntax c.args.options (inputs_of c.self.inside) c.in-Err.fault refused)

pub returns-in-Err-find_columns-clause-steps : goal.returns-in-Err-find_columns-clause-steps
returns-in-Err-find_columns-clause-steps c = rw (← c.self.view_is) (steps (goal.at.returns-in-Err-find_columns-clause-steps c).After-find_columns)

pub returns-clause-steps : goal.returns-clause-steps
returns-clause-steps c = rw (← c.self.view_is) (steps (goal.at.returns-clause-steps c).After-find_columns)

pub invariant_of-self-2 : goal.invariant_of-self-2
invariant_of-self-2 c =
    let s = c.self.inside in
    let made = rw c.deref.ensures.value at c.in-Ok.ensures.ok in
    searched_session s _ c.args.syntax c.args.options _ c.in-Ok.matchers.items refl refl c.self.invariant made (rw (c.self.invariant.matchers.counted ∙ sym made.counted) at c.self.invariant.few) c.in-Ok.ensures.rooms c.find_columns.ensures.same_matchers ((rw (again (goal.at.invariant_of-self-2 c).After-find_columns) at c.in-Ok-find_columns.ensures.ok) (all_anew (map matched_expression s.matchers.items) _ s.options c.args.options) c.self.invariant.kept) c.find_columns.ensures.same c.lose_all.ensures

pub returns-clause-gives : goal.returns-clause-gives
returns-clause-gives c =
    let made = rw c.deref.ensures.value at c.in-Ok.ensures.ok in
    rw (← c.self.view_is) (inl (made.readable, ap (λ fs. Ok (record { syntax = c.args.syntax; options = c.args.options; patterns = map (λ text. text.items) c.self.inside.texts.items; files = fs })) c.find_columns.ensures.same))

pub invariant_of-self : goal.invariant_of-self
invariant_of-self c = left_session c.self.inside _ refl refl c.self.invariant none_asked c.in-Err-find_columns.ensures.err refl

pub returns-in-Err-clause-steps : goal.returns-in-Err-clause-steps
returns-in-Err-clause-steps c = λ edit applies touches. takes_none _ _ _

pub returns-clause-marks : goal.returns-clause-marks
returns-clause-marks c = rw (← c.self.view_is) c.lose_all.ensures
