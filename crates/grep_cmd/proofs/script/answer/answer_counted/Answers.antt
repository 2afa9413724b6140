use Rattle.grep_cmd.proofs.{Prelude.{state_of, ◌≡◌, refl, sym, ap, ◌∙◌, AddFile, Splice, does, file_meant, counted_meant}, lemmas.ScriptAnswers.{answers_edit, answers_truncated, answers_lost}}
use Rattle.grep_cmd.proofs.script.answer.answer_counted.Goals as goal

pub returns-in-PutPatterns-clause-answers : goal.returns-in-PutPatterns-clause-answers
returns-in-PutPatterns-clause-answers g c = λ texts reader handed line h is. c.answer_patterns.ensures.answers texts reader handed line h (rw c.in-PutPatterns.is at is)

pub returns-in-Ok-None-clause-answers : goal.returns-in-Ok-None-clause-answers
returns-in-Ok-None-clause-answers g c =
    let takes = rw c.in-Ok-None.field-0-is at c.in-Ok-None.ensures.takes in
    λ texts reader handed line h is. answers_truncated g.R.CountedRead.remaining g.R.CountedRead.failures reader handed line c.take_lines.new.lines c.args.meter.now (state_of c.args.session.now texts) g.W.CountedWrite.contents g.W.CountedWrite.failures c.args.out.now c.take_lines.new.out _ _ is c.reply_with.new.out c.reply_with.result (takes reader handed h) c.in-Ok-None.ensures.sent c.reply_with.ensures

pub returns-in-Err-clause-answers : goal.returns-in-Err-clause-answers
returns-in-Err-clause-answers g c = λ texts reader handed line h is. answers_lost g.R.CountedRead.remaining g.R.CountedRead.failures reader handed line c.take_lines.new.lines c.args.meter.now (state_of c.args.session.now texts) g.W.CountedWrite.contents g.W.CountedWrite.failures c.args.out.now c.take_lines.new.out _ _ is c.in-Err.fault (c.in-Err.ensures.takes reader handed h) c.in-Err.ensures.sent

pub returns-in-Add-clause-answers : goal.returns-in-Add-clause-answers
returns-in-Add-clause-answers g c =
    let takes = rw c.in-Ok-Some.field-0-is at c.in-Ok-Some.ensures.takes in
    let taken = c.in-Ok-Some.taken in
    let edit = AddFile c.in-Add.name.items taken in
    let meant : counted_meant c.args.counted.edit taken ≡ edit = ap (λ e. counted_meant e taken) c.in-PutLines.is ∙ ap (λ e. file_meant e taken) c.in-Add.is in
    let e = c.add_file.ensures in
    λ texts reader handed line h is.
    let t = takes reader handed h in
    answers_edit handed line (state_of c.args.session.now texts) (state_of c.add_file.new.self texts) c.reply_to_edit.new.out edit taken c.add_file.result c.reply_to_edit.result c.in-Ok-Some.ensures.sent t.1 refl (rw is (t.0, ap does (sym meant))) e.gives e.same_states e.marks (λ none. absurd none) refl e.steps c.reply_to_edit.ensures

pub returns-in-Splice-clause-answers : goal.returns-in-Splice-clause-answers
returns-in-Splice-clause-answers g c =
    let takes = rw c.in-Ok-Some.field-0-is at c.in-Ok-Some.ensures.takes in
    let taken = c.in-Ok-Some.taken in
    let edit = Splice c.in-Splice.file c.in-Splice.start c.in-Splice.removed taken in
    let meant : counted_meant c.args.counted.edit taken ≡ edit = ap (λ e. counted_meant e taken) c.in-PutLines.is ∙ ap (λ e. file_meant e taken) c.in-Splice.is in
    let e = c.splice.ensures in
    λ texts reader handed line h is.
    let t = takes reader handed h in
    answers_edit handed line (state_of c.args.session.now texts) (state_of c.splice.new.self texts) c.reply_to_edit-in-Splice.new.out edit taken c.splice.result c.reply_to_edit-in-Splice.result c.in-Ok-Some.ensures.sent t.1 refl (rw is (t.0, ap does (sym meant))) e.gives e.same_states e.marks e.memory refl e.steps c.reply_to_edit-in-Splice.ensures
