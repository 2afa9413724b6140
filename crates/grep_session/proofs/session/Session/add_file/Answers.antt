use Rattle.grep_session.proofs.{Prelude.{Ok, map, inl, refl, ap, ◌∙◌, ◌++◌, ◌∷◌, [], map-append, All-push, matched_expression, whole_file, with_files, IsFileKept, kept_file, inputs_of, AddFile, TakesSteps}, lemmas.{FitLemmas.fit_pushed, EditLemmas.{asked_session, left_session, file_steps}}, session.Session.add_file.Goals.After-search_new}
use Rattle.grep_session.proofs.session.Session.add_file.Goals as goal

takes : (c : After-search_new) → TakesSteps (AddFile c.args.name.items c.args.lines) (inputs_of c.self.inside) c.args.meter.now c.search_new.new.meter
takes c = file_steps _ c.self.invariant _ c.search_new.ensures.free _ _ c.search_new.ensures.steps _

pub returns-in-Err-clause-steps : goal.returns-in-Err-clause-steps
returns-in-Err-clause-steps c = rw (← c.self.view_is) (takes (goal.at.returns-in-Err-clause-steps c).After-search_new)

pub returns-in-Err-push_file-clause-steps : goal.returns-in-Err-push_file-clause-steps
returns-in-Err-push_file-clause-steps c = rw (← c.self.view_is) (takes (goal.at.returns-in-Err-push_file-clause-steps c).After-search_new)

pub returns-clause-steps : goal.returns-clause-steps
returns-clause-steps c = rw (← c.self.view_is) (takes (goal.at.returns-clause-steps c).After-search_new)

pub invariant_of-self : goal.invariant_of-self
invariant_of-self c = left_session _ _ refl refl c.self.invariant c.search_new.ensures.same_matchers refl refl

pub invariant_of-self-in-Err-push_file : goal.invariant_of-self-in-Err-push_file
invariant_of-self-in-Err-push_file c = left_session _ _ refl refl c.self.invariant c.search_new.ensures.same_matchers c.in-Err-push_file.ensures.err.0 c.in-Err-push_file.ensures.err.1

pub invariant_of-self-2 : goal.invariant_of-self-2
invariant_of-self-2 c =
    let s = c.self.inside in
    let Kept = IsFileKept (map matched_expression s.matchers.items) s.options in
    asked_session s _ refl refl c.self.invariant c.search_new.ensures.same_matchers (rw c.in-Ok-push_file.ensures.ok.0 (All-push Kept s.files.items _ c.self.invariant.kept c.in-Ok.ensures.ok))
    (fit_pushed s.files.items s.marks.items _ _ _ c.in-Ok-push_file.ensures.ok.0 c.in-Ok-push_file.ensures.ok.1 c.self.invariant.fit)

pub returns-clause-gives : goal.returns-clause-gives
returns-clause-gives c =
    let old = inputs_of c.self.inside in
    let files =
    ap (map kept_file) c.in-Ok-push_file.ensures.ok.0 ∙ map-append kept_file c.self.inside.files.items _ ∙ ap (λ lines. old.files ++ whole_file c.args.name.items lines ∷ []) c.in-Ok.ensures.texts in
    rw (← c.self.view_is) (inl (c.search_new.ensures.free, ap (λ fs. Ok (with_files fs old)) files))

pub returns-clause-marks : goal.returns-clause-marks
returns-clause-marks c =
    rw (← c.self.view_is) (cc (c.in-Ok-push_file.ensures.ok.1, c.in-Ok.ensures.texts))
