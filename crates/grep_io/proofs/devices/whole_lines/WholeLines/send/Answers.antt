use Rattle.grep_io.proofs.{Prelude.arith, lemmas.LineSentLemmas.no_newline_after_front}
use Rattle.grep_io.proofs.devices.whole_lines.WholeLines.send.Goals as goal

pub invariant_of-self : goal.invariant_of-self
invariant_of-self g c = (omega arith, omega arith, no_newline_after_front g.W.CountedWrite.contents g.W.CountedWrite.failures _ _ c.len-all.result c.send_front.result c.send_front.ensures.sent c.self.invariant.2)

pub returns-clause-no_line_waits : goal.returns-clause-no_line_waits
returns-clause-no_line_waits g c = no_newline_after_front g.W.CountedWrite.contents g.W.CountedWrite.failures _ _ c.len-all.result c.send_front.result c.send_front.ensures.sent c.self.invariant.2
