use Rattle.{grep_cmd.proofs.{Prelude.{ap, append-nil, codes, counts, counted_meant, switches_text, sets_text, state_of, ◌≡◌, Some, None, Ok, Err, refl, sym, rules, [], ◌∷◌, reports, reports_changes, reports_page, tells_version, is_bad, edits, shows, lists_changes, lists_page, asks_version, line_command, bad_command, version_line, line_meant}, lemmas.ScriptAnswers.{answers_edit, answers_idle, answers_changes, does_alone, shown_is_no_refusal, changes_is_no_refusal, page_is_no_refusal}}, grep_core.proofs.lemmas.RowLemmas.goes_nowhere, grep_session.specs.declared.fault.EditFault.TheVariants.Memory}
use Rattle.grep_cmd.proofs.script.answer.answer_command.Goals as goal

pub returns-in-Ok-Some-Edit-clause-answers : goal.returns-in-Ok-Some-Edit-clause-answers
returns-in-Ok-Some-Edit-clause-answers g c =
    let edit = line_meant c.in-Ok-Some-Edit.edit in
    let e = c.make_edit.ensures in
    let is : line_command c.args.lines.now.lines.line ≡ Some (edits edit) = search rules in
    λ reader handed h. answers_edit handed c.args.lines.now.lines.line (state_of c.args.session.now c.args.has_text.now) (state_of c.make_edit.new.session c.args.has_text.now) c.reply_to_edit.new.out edit [] c.make_edit.result c.reply_to_edit.result
    (goes_nowhere g.W.CountedWrite.contents g.W.CountedWrite.failures c.args.out.now) h (sym (append-nil handed)) (rw is (refl, refl)) e.gives e.same_states e.marks e.memory refl e.steps c.reply_to_edit.ensures

pub returns-in-Ok-Some-Show-clause-answers : goal.returns-in-Ok-Some-Show-clause-answers
returns-in-Ok-Some-Show-clause-answers g c =
    let now = state_of c.args.session.now c.args.has_text.now in
    let s = c.reply_to_show.ensures in
    λ reader handed h. answers_idle c.args.lines.now.lines.line c.args.meter.now now now c.reply_to_show.new.out (Some shows) reports s.0 (Ok tt) c.reply_to_show.result (goes_nowhere g.W.CountedWrite.contents g.W.CountedWrite.failures c.args.out.now) h (search rules) (refl, refl) (s.1, refl) refl (shown_is_no_refusal s.1) s.2

pub returns-in-Ok-None-clause-answers : goal.returns-in-Ok-None-clause-answers
returns-in-Ok-None-clause-answers g c =
    let now = state_of c.args.session.now c.args.has_text.now in
    λ reader handed h. answers_idle c.args.lines.now.lines.line c.args.meter.now now now c.reply_with.new.out None is_bad (bad_command ∷ []) (Err Memory) c.reply_with.result (goes_nowhere g.W.CountedWrite.contents g.W.CountedWrite.failures c.args.out.now) h (search rules) (refl, refl) (refl, refl) refl refl c.reply_with.ensures

pub returns-in-Ok-Some-Changes-clause-answers : goal.returns-in-Ok-Some-Changes-clause-answers
returns-in-Ok-Some-Changes-clause-answers g c =
    let t = c.reply_to_changes.ensures in
    λ reader handed h. answers_changes {before = state_of c.args.session.now c.args.has_text.now} (state_of c.reply_to_changes.new.session c.args.has_text.now) g.W.CountedWrite.contents g.W.CountedWrite.failures c.args.out.now c.reply_to_changes.new.out t.1 c.reply_to_changes.result
    (does_alone (Some lists_changes) reports_changes h (search rules) (refl, refl) (t.2, refl) refl) (changes_is_no_refusal t.2) t.2.leaves t.4 t.3

pub returns-in-Ok-Some-Page-clause-answers : goal.returns-in-Ok-Some-Page-clause-answers
returns-in-Ok-Some-Page-clause-answers g c =
    let p = c.in-Ok-Some-Page in
    let now = state_of c.args.session.now c.args.has_text.now in
    let t = c.reply_to_page.ensures in
    λ reader handed h. answers_idle c.args.lines.now.lines.line c.args.meter.now now now c.reply_to_page.new.out (Some (lists_page p.first p.count)) (reports_page p.first p.count) t.0 (Ok tt) c.reply_to_page.result (goes_nowhere g.W.CountedWrite.contents g.W.CountedWrite.failures c.args.out.now) h (search rules) (refl, refl) (t.1, refl) refl (page_is_no_refusal t.1) t.2

pub returns-in-Ok-Some-Version-clause-answers : goal.returns-in-Ok-Some-Version-clause-answers
returns-in-Ok-Some-Version-clause-answers g c =
    let now = state_of c.args.session.now c.args.has_text.now in
    λ reader handed h. answers_idle c.args.lines.now.lines.line c.args.meter.now now now c.reply_to_version.new.out (Some asks_version) tells_version (version_line ∷ []) (Ok tt) c.reply_to_version.result (goes_nowhere g.W.CountedWrite.contents g.W.CountedWrite.failures c.args.out.now) h (search rules) (refl, refl) (refl, refl) refl refl c.reply_to_version.ensures

pub returns-in-Ok-Some-Counted-clause-answers : goal.returns-in-Ok-Some-Counted-clause-answers
returns-in-Ok-Some-Counted-clause-answers g c =
    let counted = c.in-Ok-Some-Counted.counted in
    let is : line_command c.args.lines.now.lines.line ≡ Some (counts counted.count (counted_meant counted.edit)) = search rules in
    λ reader handed h. c.answer_counted.ensures.answers c.args.has_text.now reader handed c.args.lines.now.lines.line h is

pub returns-in-Ok-Some-Text-clause-answers : goal.returns-in-Ok-Some-Text-clause-answers
returns-in-Ok-Some-Text-clause-answers g c =
    let on = c.in-Ok-Some-Text.on in
    let set = ap (state_of c.args.session.now) c.reply_to_text.ensures.set in
    λ reader handed h. answers_idle c.args.lines.now.lines.line c.args.meter.now (state_of c.args.session.now c.args.has_text.now) (state_of c.args.session.now c.reply_to_text.new.has_text) c.reply_to_text.new.out (Some (switches_text on)) (sets_text on) (codes "ok" ∷ []) (Ok tt) c.reply_to_text.result
    (goes_nowhere g.W.CountedWrite.contents g.W.CountedWrite.failures c.args.out.now) h (search rules) (refl, refl) (refl, set) refl refl c.reply_to_text.ensures.replied
