use Rattle.grep_io.proofs.{Prelude.{arith, rules, append_known-grown}, lemmas.LineSentLemmas.{no_newline_waits, line_taken, line_within, line_written, line_counted}}
use Rattle.grep_io.proofs.devices.whole_lines.WholeLinesCountedWrite.push.Goals as goal

pub invariant_of-self-2 : goal.invariant_of-self-2
invariant_of-self-2 g c = (omega arith, omega arith, no_newline_waits g.W.CountedWrite.contents g.W.CountedWrite.failures _ _ _ c.push_line.result c.push_line.ensures.sent c.self.invariant.2)

pub returns-then-is_err-clause-no_line_waits : goal.returns-then-is_err-clause-no_line_waits
returns-then-is_err-clause-no_line_waits g c = c.make_room.ensures.no_line_waits

pub returns-clause-no_line_waits : goal.returns-clause-no_line_waits
returns-clause-no_line_waits g c = no_newline_waits g.W.CountedWrite.contents g.W.CountedWrite.failures _ _ _ c.push_line.result c.push_line.ensures.sent c.self.invariant.2

pub returns-clause-bytes : goal.returns-clause-bytes
returns-clause-bytes g c = line_written g.W.CountedWrite.contents g.W.CountedWrite.failures c.args.self.now c.self.inside.inner c.push_line.new.out c.self.inside.buffer.items c.push_line.new.buffer.items c.args.from.now c.in-Some.end c.push_line.result (rw (← c.self.view_is) at c.make_room.ensures.kept) c.push_line.ensures.sent

pub returns-clause-counted : goal.returns-clause-counted
returns-clause-counted g c = line_counted g.W.CountedWrite.contents g.W.CountedWrite.failures c.args.self.now c.self.inside.inner c.push_line.new.out c.self.inside.buffer.items c.push_line.new.buffer.items _ c.push_line.result c.self.view_is (search rules) c.push_line.ensures.sent

pub returns-clause-some_taken : goal.returns-clause-some_taken
returns-clause-some_taken g c = line_taken g.W.CountedWrite.contents g.W.CountedWrite.failures _ _ _ c.push_line.result c.push_line.ensures.sent

pub returns-clause-bound : goal.returns-clause-bound
returns-clause-bound g c = line_within g.W.CountedWrite.contents g.W.CountedWrite.failures _ _ c.args.from.now c.in-Some.end c.push_line.result c.push_line.ensures.sent

pub returns-in_default-clause-bytes : goal.returns-in_default-clause-bytes
returns-in_default-clause-bytes g c = append_known-grown _ (g.W.CountedWrite.contents c.self.inside.inner) c.self.inside.buffer.items _ _ (rw (← c.self.view_is) at c.make_room.ensures.kept) c.collect_text.ensures.items
