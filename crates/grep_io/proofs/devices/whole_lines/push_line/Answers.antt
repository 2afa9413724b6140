use Rattle.grep_io.proofs.{Prelude.{◌∙◌, arith}, lemmas.LineSentLemmas.{line_goes, line_stays}}
use Rattle.grep_io.proofs.devices.whole_lines.push_line.Goals as goal

pub returns-clause-sent : goal.returns-clause-sent
returns-clause-sent g c = line_goes g.W.CountedWrite.contents g.W.CountedWrite.failures c.args.out.now c.push_past-sent.new.out c.args.buffer.now.items c.args.line.now c.push_past-sent.result c.len-held.result (c.deref.ensures.value ∙ c.collect_text.ensures.items) (omega arith) c.if-sent-held.false c.push_past-sent.ensures.within c.push_past-sent.ensures.written (c.push_past-sent.ensures.none_failed c.if-sent-held.false) c.clear.ensures.items

pub returns-then-sent-held-clause-sent : goal.returns-then-sent-held-clause-sent
returns-then-sent-held-clause-sent g c = line_stays g.W.CountedWrite.contents g.W.CountedWrite.failures c.args.out.now c.push_past-sent.new.out c.args.buffer.now.items c.args.line.now c.truncate.new.self.items c.push_past-sent.result c.len-held.result (c.deref.ensures.value ∙ c.collect_text.ensures.items) (omega arith) c.if-sent-held.true c.push_past-sent.ensures.written (c.push_past-sent.ensures.one_failed c.if-sent-held.true) (cc (c.truncate.ensures.items, c.deref.ensures.value)) c.take_off.ensures.items
