use Rattle.{gaxtrel.{proofs.{Prelude.{Global, Option, Some, Vec, [], ap, arith, length, rules, subst, sym, ℕ, ◌<◌, ◌^◌, ◌≡◌, ◌≤◌, Text}, CommandLemmas.text_answered}, specs.Live.{AnswersText, LiveKept}}, grep_core.specs.{Counted.Tallied, Reading.most_lines}, grep_cmd.specs.Replies.{GaveLines, ScriptGives}}
use Rattle.gaxtrel.proofs.live.Live.answer.Goals as goal

pub returns : goal.returns
returns c =
    let text : Text = c.args.commands.now in
    let left : Option Text = Some c.answer-ended.new.reader.rest.now in
    let contents : Tallied (Vec ℕ Global) → Option Text = λ t. Some t.device.items in
    let failures : Tallied (Vec ℕ Global) → ℕ = λ t. t.failed in
    let after : LiveKept = record { state = c.answer-ended.new.self; replies = c.into_inner.result.items } in
    let few : length text ≤ most_lines = let short : length text < 2 ^ 64 = search rules in omega (arith, short) in
    let none : Some c.new-writer.result.device.items ≡ Some [] = search rules in
    let all : Some c.answer-ended.new.writer.device.items ≡ Some after.replies = ap (λ (v : Vec ℕ Global). Some v.items) (sym c.into_inner.ensures) in
    let gives = subst (λ (t : Text). ScriptGives contents failures (GaveLines (Some t) left) (Some t) left 0 0 c.self.inside.script c.answer-ended.new.self c.args.meter.now c.answer-ended.new.meter c.new-writer.result c.answer-ended.new.writer c.answer-ended.result) c.read_text-reader.ensures c.answer-ended.ensures.gives in
    let answered = text_answered contents failures (GaveLines (Some text) left) text left c.self.inside.script after c.args.meter.now c.answer-ended.new.meter c.new-writer.result c.answer-ended.new.writer few none all c.answer-ended.result c.number_of_end.result gives c.number_of_end.ensures.answered c.number_of_end.ensures.short in
    subst (λ (l : LiveKept). AnswersText l.state text c.args.meter.now after c.answer-ended.new.meter c.number_of_end.result) c.self.view_is answered
