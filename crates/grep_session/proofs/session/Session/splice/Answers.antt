use Rattle.grep_session.proofs.{Prelude.{◌≡◌, ◌+◌, length, length-map, nil_from_length, map, refl, sym, ◌∙◌, ap, get_or, set, arith, matched_expression, KeptFile, Splice, HasPlace, TakesSteps, splice, spliced, file_at, with_files, kept_file, kept_lines, all_of, line_text, inputs_of, watched_of}, lemmas.{StepLemmas.takes_none, SessionLemmas.inputs_are, EditLemmas.{asked_session, left_session, splice_steps, applies_splice, in_kept, kept_put, files_same, files_spliced, files_kept, needs_for_lines}, FitLemmas.{as_many, fit_as, fit_spliced, given_splice, lines_spliced, mark_within, mark_rest, mark_spliced}}, session.Session.splice.Goals.{After-search_new, After-line_count-many}}
use Rattle.grep_session.proofs.session.Session.splice.Goals as goal

there : (c : After-search_new) → HasPlace (inputs_of c.self.inside).files c.args.k c.args.start c.args.count
there c = rw c.deref.ensures.value at c.in-Ok.ensures.place

takes : (c : After-search_new) → TakesSteps (Splice c.args.k c.args.start c.args.count c.args.lines) (inputs_of c.self.inside) c.args.meter.now c.search_new.new.meter
takes c = splice_steps c.self.inside c.self.invariant _ c.search_new.ensures.free _ _ c.search_new.ensures.steps _ _ _ (there c)

-- the files with the new lines, and how many lines theirs has
made : (c : After-line_count-many) → let old = (inputs_of c.self.inside).files in let come = map line_text (all_of c.in-Ok-search_new.kept) in (map kept_file (set c.self.inside.files.items c.args.k c.put_in.new.file) ≡ spliced old c.args.k c.args.start c.args.count come)
    × (c.line_count-many.result ≡ length (splice (file_at old c.args.k).lines c.args.start (c.args.start + c.args.count) come))
made c =
    let old = (inputs_of c.self.inside).files in
    let kept = all_of c.in-Ok-search_new.kept in
    let place = rw c.deref.ensures.value at c.in-Ok.ensures.place in
    let all = files_spliced c.args.start c.args.count kept c.self.inside.files.items c.args.k c.index_mut.result.now c.put_in.new.file place c.index_mut.ensures.value c.put_in.ensures.name c.in-Ok-put_in.ensures.ok in
    (all, c.line_count-many.ensures ∙ lines_spliced _ old c.args.k c.args.start c.args.count (map line_text kept) c.index.result.now place.in_files all c.index.ensures)

pub returns-in-Err-clause-steps : goal.returns-in-Err-clause-steps
returns-in-Err-clause-steps c = takes_none _ _ _

pub returns-in-Err-search_new-clause-steps : goal.returns-in-Err-search_new-clause-steps
returns-in-Err-search_new-clause-steps c = rw (← c.self.view_is) (takes (goal.at.returns-in-Err-search_new-clause-steps c).After-search_new)

pub returns-in-Err-put_in-clause-steps : goal.returns-in-Err-put_in-clause-steps
returns-in-Err-put_in-clause-steps c = rw (← c.self.view_is) (takes (goal.at.returns-in-Err-put_in-clause-steps c).After-search_new)

pub returns-clause-steps : goal.returns-clause-steps
returns-clause-steps c = rw (← c.self.view_is) (takes (goal.at.returns-clause-steps c).After-search_new)

pub returns-in-Err-put_in-clause-gives : goal.returns-in-Err-put_in-clause-gives
returns-in-Err-put_in-clause-gives c =
    let s = c.self.inside in
    let d = c.index_mut.result.now in
    let at : d ≡ get_or s.files.items c.args.k d = c.index_mut.ensures.value in
    let same = files_same s.files.items c.args.k d c.put_in.new.file (ap (λ n. n.items) c.put_in.ensures.name ∙ ap (λ (f : KeptFile). f.name.items) at) (c.in-Err-put_in.ensures.err ∙ ap kept_lines at) in
    ap (λ fs. with_files fs (inputs_of s)) same ∙ (inputs_are c.self.view_is)

pub invariant_of-self-2 : goal.invariant_of-self-2
invariant_of-self-2 c =
    let s = c.self.inside in
    let old = inputs_of s in
    let d = c.index_mut.result.now in
    let at : d ≡ get_or s.files.items c.args.k d = c.index_mut.ensures.value in
    let place = there (goal.at.invariant_of-self-2 c).After-search_new in
    let come = map line_text (all_of c.in-Ok-search_new.kept) in
    let now = made (goal.at.invariant_of-self-2 c).After-line_count-many in
    let es = map matched_expression s.matchers.items in
    let before = rw (sym at) at (c.self.invariant.kept c.args.k d (in_kept s.files.items c.args.k place.in_files)) in
    let kept = files_kept es s.options s.files.items c.args.k c.put_in.new.file _ c.self.invariant.kept c.in-Ok-put_in.ensures.ok (kept_put c.args.start c.args.count (all_of c.in-Ok-search_new.kept) es s.options (kept_lines d) before c.in-Ok-search_new.ensures.ok) in
    let marks = mark_spliced old.files s.marks.items c.self.invariant.fit c.args.k c.args.start c.args.count come place.in_files place.in_file c.line_count-many.result now.1 c.touch.new.marks.items c.touch.ensures in
    asked_session s _ refl refl c.self.invariant c.search_new.ensures.same_matchers kept
    (fit_as (spliced old.files c.args.k c.args.start c.args.count come) _ _ _ now.0 marks.2
    (fit_spliced old.files s.marks.items c.self.invariant.fit c.args.k c.args.start c.args.count come place.in_files place.in_file marks.0 marks.1))

pub touch-requires-clause-inside : goal.touch-requires-clause-inside
touch-requires-clause-inside c =
    let place = there (goal.at.touch-requires-clause-inside c).After-search_new in
    omega (arith, as_many (inputs_of c.self.inside).files c.self.inside.marks.items c.self.invariant.fit)

pub touch-requires-clause-within : goal.touch-requires-clause-within
touch-requires-clause-within c =
    let place = there (goal.at.touch-requires-clause-within c).After-search_new in
    mark_within (inputs_of c.self.inside).files _ c.self.invariant.fit _ _ _ _ place.in_files place.in_file _ (made (goal.at.touch-requires-clause-within c).After-line_count-many).1

pub touch-requires-clause-rest : goal.touch-requires-clause-rest
touch-requires-clause-rest c =
    let place = there (goal.at.touch-requires-clause-rest c).After-search_new in
    mark_rest (inputs_of c.self.inside).files _ c.self.invariant.fit _ _ _ _ place.in_files place.in_file _ (made (goal.at.touch-requires-clause-rest c).After-line_count-many).1

pub returns-clause-marks : goal.returns-clause-marks
returns-clause-marks c =
    let s = c.self.inside in
    let place = there (goal.at.returns-clause-marks c).After-search_new in
    let come = map line_text (all_of c.in-Ok-search_new.kept) in
    let marks = mark_spliced (inputs_of s).files s.marks.items c.self.invariant.fit c.args.k c.args.start c.args.count come place.in_files place.in_file c.line_count-many.result (made (goal.at.returns-clause-marks c).After-line_count-many).1 c.touch.new.marks.items c.touch.ensures in
    rw (← c.self.view_is) (given_splice c.args.k c.args.start c.args.count c.args.lines come (watched_of s) c.touch.new.marks.items c.in-Ok-search_new.ensures.texts marks)

pub returns-clause-gives : goal.returns-clause-gives
returns-clause-gives c =
    let old = inputs_of c.self.inside in
    let now = (made (goal.at.returns-clause-gives c).After-line_count-many).0 ∙ ap (λ ls. spliced old.files c.args.k c.args.start c.args.count ls) c.in-Ok-search_new.ensures.texts in
    rw (← c.self.view_is) (rw now (applies_splice old _ _ _ c.args.lines (there (goal.at.returns-clause-gives c).After-search_new) c.search_new.ensures.free))

pub returns-in-Err-search_new-clause-memory : goal.returns-in-Err-search_new-clause-memory
returns-in-Err-search_new-clause-memory c =
    rw (← c.self.view_is) (λ need. absurd (needs_for_lines (inputs_of c.self.inside) (there (goal.at.returns-in-Err-search_new-clause-memory c).After-search_new) (λ empty. c.in-Err-search_new.ensures.memory empty) need))

pub returns-in-Err-put_in-clause-memory : goal.returns-in-Err-put_in-clause-memory
returns-in-Err-put_in-clause-memory c =
    rw (← c.self.view_is) (λ need. absurd (needs_for_lines (inputs_of c.self.inside) (there (goal.at.returns-in-Err-put_in-clause-memory c).After-search_new) (λ empty. c.in-Err-put_in.ensures.memory (nil_from_length (all_of c.in-Ok-search_new.kept) (cc (length-map (all_of c.in-Ok-search_new.kept) line_text, c.in-Ok-search_new.ensures.texts ∙ empty)))) need))

pub index_mut-requires : goal.index_mut-requires
index_mut-requires c =
    omega (arith, in_kept c.self.inside.files.items c.args.k (there (goal.at.index_mut-requires c).After-search_new).in_files)

pub invariant_of-self : goal.invariant_of-self
invariant_of-self c = left_session c.self.inside _ refl refl c.self.invariant c.search_new.ensures.same_matchers refl refl

pub invariant_of-self-in-Err-put_in : goal.invariant_of-self-in-Err-put_in
invariant_of-self-in-Err-put_in c =
    let s = c.self.inside in
    let es = map matched_expression s.matchers.items in
    let d = c.index_mut.result.now in
    let at : d ≡ get_or s.files.items c.args.k d = c.index_mut.ensures.value in
    let within = in_kept s.files.items c.args.k (there (goal.at.invariant_of-self-in-Err-put_in c).After-search_new).in_files in
    let before = rw (sym at) at (c.self.invariant.kept c.args.k d within) in
    let kept = files_kept es s.options s.files.items c.args.k c.put_in.new.file _ c.self.invariant.kept c.in-Err-put_in.ensures.err before in
    let same = files_same s.files.items c.args.k d c.put_in.new.file (ap (λ n. n.items) c.put_in.ensures.name ∙ ap (λ (f : KeptFile). f.name.items) at) (c.in-Err-put_in.ensures.err ∙ ap kept_lines at) in
    asked_session s _ refl refl c.self.invariant c.search_new.ensures.same_matchers kept (fit_as (inputs_of s).files _ s.marks.items _ same refl c.self.invariant.fit)
