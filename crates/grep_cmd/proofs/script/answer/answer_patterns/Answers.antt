use Rattle.{grep_cmd.proofs.{Prelude.{ap, state_of, ◌≤◌, length, map, refl, arith, counted_meant}, lemmas.ScriptAnswers.{answers_edit, answers_truncated, answers_lost}}, script_commands.specs.declared.command.CountedEdit.TheVariants.PutPatterns}
use Rattle.grep_cmd.proofs.script.answer.answer_patterns.Goals as goal

pub returns-in-Ok-None-clause-answers : goal.returns-in-Ok-None-clause-answers
returns-in-Ok-None-clause-answers g c =
    let takes = rw c.in-Ok-None.field-0-is at c.in-Ok-None.ensures.takes in
    λ texts reader handed line h is. answers_truncated g.R.CountedRead.remaining g.R.CountedRead.failures reader handed line c.take_texts.new.lines c.args.meter.now (state_of c.args.session.now texts) g.W.CountedWrite.contents g.W.CountedWrite.failures c.args.out.now c.take_texts.new.out _ _ is c.reply_with.new.out c.reply_with.result (takes reader handed h) c.in-Ok-None.ensures.sent c.reply_with.ensures

pub returns-in-Err-clause-answers : goal.returns-in-Err-clause-answers
returns-in-Err-clause-answers g c = λ texts reader handed line h is. answers_lost g.R.CountedRead.remaining g.R.CountedRead.failures reader handed line c.take_texts.new.lines c.args.meter.now (state_of c.args.session.now texts) g.W.CountedWrite.contents g.W.CountedWrite.failures c.args.out.now c.take_texts.new.out _ _ is c.in-Err.fault (c.in-Err.ensures.takes reader handed h) c.in-Err.ensures.sent

pub returns-in-Ok-clause-answers : goal.returns-in-Ok-clause-answers
returns-in-Ok-clause-answers g c =
    let takes = rw c.in-Ok-Some.field-0-is at c.in-Ok-Some.ensures.takes in
    let taken = map (λ t. t.items) c.in-Ok-Some.taken.items in
    let e = c.in-Ok.ensures in
    λ texts reader handed line h is.
    let t = takes reader handed h in
    answers_edit handed line (state_of c.args.session.now texts) (state_of c.put_patterns.new.session texts) c.reply_to_edit.new.out (counted_meant (PutPatterns c.args.edit) taken) taken c.in-Ok.answer c.reply_to_edit.result c.in-Ok-Some.ensures.sent t.1 refl (rw is (t.0, refl)) e.gives e.same_states e.marks e.memory refl e.steps c.reply_to_edit.ensures

pub returns-in-Err-put_patterns-clause-answers : goal.returns-in-Err-put_patterns-clause-answers
returns-in-Err-put_patterns-clause-answers g c =
    let takes = rw c.in-Ok-Some.field-0-is at c.in-Ok-Some.ensures.takes in
    λ texts reader handed line h is.
    let t = takes reader handed h in
    let few : length (map (λ t. t.items) c.in-Ok-Some.taken.items) ≤ c.args.count = omega (arith, t.0) in
    (record { taken = map (λ t. t.items) c.in-Ok-Some.taken.items; asks = rw is few; has_handed = t.1; idle = c.in-Err-put_patterns.ensures.idle; same = ap (λ s. state_of s texts) c.in-Err-put_patterns.ensures.kept }, c.in-Ok-Some.ensures.sent)
