use Rattle.{std.proofs.Common.subst, grep_core.specs.{Buffer.all_contents, Run.writer}, grep_cmd.specs.Replies.{GaveLines, ScriptGives, ScriptState}, occur.proofs.lemmas.ExitLemmas.all_sent}
use Rattle.occur.proofs.run_on_devices.Goals as goal

pub returns : goal.returns
returns g c =
    let known = g.R.CountedRead.remaining c.args.reader.now in
    let rest = g.R.CountedRead.remaining c.answer-ended.new.reader in record {
      ended = c.answer-ended.result;
      left = c.answer-ended.new.self;
      script = subst (λ (s : ScriptState). ScriptGives (all_contents g.W.CountedWrite.contents) (λ out. g.W.CountedWrite.failures out.inner) (GaveLines known rest) known rest (g.R.CountedRead.failures c.args.reader.now) (g.R.CountedRead.failures c.answer-ended.new.reader) s c.answer-ended.new.self c.args.meter.now c.answer-ended.new.meter c.args.out.now c.answer-ended.new.writer c.answer-ended.result) c.new-script.ensures c.answer-ended.ensures.gives;
      sent = λ apart. all_sent c.answer-ended.new.writer.waiting (g.W.CountedWrite.waiting c.answer-ended.new.writer.inner) (c.answer-ended.ensures.sent apart);
      reported = writer g.M.CountedWrite.contents g.M.CountedWrite.failures c.end_script-found.new.messages;
      found = c.end_script-found.result;
      ends = c.end_script-found.ensures;
      sends = c.send_messages.ensures;
    }
