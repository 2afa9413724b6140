use Rattle.grep_session.proofs.{Prelude.{◌≡◌, [], refl, Ok, map, inl, ap, ◌∙◌, matched_expression, AreMatchers, Edit, Applies, Touches, TakesSteps, parts_alone, read_as, inputs_of, all_lines}, lemmas.{EditLemmas.{left_session, searched_session}, AllPatternsRead.AreMatchers-options, ChangeLemmas.parts_anew, StepLemmas.takes_parts, SessionLemmas.inputs_are}, session.Session.part_again.Goals.After-find_columns}
use Rattle.grep_session.proofs.session.Session.part_again.Goals as goal

-- the lines have to be whole as before
same_whole : (c : After-find_columns) → c.args.options.line_regexp ≡ c.self.inside.options.line_regexp
same_whole c = c.requires.same_whole ∙ rw (← inputs_are c.self.view_is)

-- the matchers serve under the new options too
made : (c : After-find_columns) → AreMatchers c.self.inside.syntax c.args.options (inputs_of c.self.inside).patterns c.self.inside.matchers.items
made c =
    let s = c.self.inside in
    AreMatchers-options s.syntax s.options c.args.options s.matchers.items (same_whole c) (c.requires.same_case ∙ rw (← inputs_are c.self.view_is)) c.self.invariant.matchers

steps : (c : After-find_columns) → let old = inputs_of c.self.inside in (edit : Edit) → Applies edit old (Ok (read_as old.syntax c.args.options old)) → Touches edit old (parts_alone (all_lines old)) → TakesSteps edit old c.args.meter.now c.find_columns.new.meter
steps c = λ edit applies touches.
    let s = c.self.inside in
    let old = inputs_of s in
    let es = map matched_expression s.matchers.items in
    let searched = rw c.anew.ensures at c.find_columns.ensures.steps in
    takes_parts edit old (read_as old.syntax c.args.options old) [] [] es (all_lines old) _ _ applies touches (made c).meant (searched (parts_anew es s.options c.args.options (same_whole c)) c.self.invariant.kept)

pub find_columns-requires-clause-whole : goal.find_columns-requires-clause-whole
find_columns-requires-clause-whole c =
    let whole : c.args.options.line_regexp ≡ c.self.inside.options.line_regexp = c.requires.same_whole ∙ rw (← inputs_are c.self.view_is) in
    rw whole c.self.invariant.matchers.wholes

pub returns-in-Err-clause-steps : goal.returns-in-Err-clause-steps
returns-in-Err-clause-steps c = rw (← c.self.view_is) (steps (goal.at.returns-in-Err-clause-steps c).After-find_columns)

pub returns-clause-steps : goal.returns-clause-steps
returns-clause-steps c = rw (← c.self.view_is) (steps (goal.at.returns-clause-steps c).After-find_columns)

pub invariant_of-self-2 : goal.invariant_of-self-2
invariant_of-self-2 c =
    let s = c.self.inside in
    let at = (goal.at.invariant_of-self-2 c).After-find_columns in
    searched_session s _ s.syntax c.args.options _ s.matchers.items refl refl c.self.invariant (made at) c.self.invariant.few c.self.invariant.rooms c.find_columns.ensures.same_matchers ((rw c.anew.ensures at c.in-Ok.ensures.ok) (parts_anew (map matched_expression s.matchers.items) s.options c.args.options (same_whole at)) c.self.invariant.kept) c.find_columns.ensures.same c.lose_all.ensures

pub returns-clause-gives : goal.returns-clause-gives
returns-clause-gives c =
    rw (← c.self.view_is) (inl ((made (goal.at.returns-clause-gives c).After-find_columns).readable, ap (λ fs. Ok (record { syntax = c.self.inside.syntax; options = c.args.options; patterns = map (λ text. text.items) c.self.inside.texts.items; files = fs })) c.find_columns.ensures.same))

pub invariant_of-self : goal.invariant_of-self
invariant_of-self c = left_session c.self.inside _ refl refl c.self.invariant c.find_columns.ensures.same_matchers c.in-Err.ensures.err refl

pub returns-clause-marks : goal.returns-clause-marks
returns-clause-marks c = rw (← c.self.view_is) c.lose_all.ensures
