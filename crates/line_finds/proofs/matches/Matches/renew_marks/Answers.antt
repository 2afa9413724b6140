use Rattle.line_finds.proofs.{Prelude.length, lemmas.MarkLaws.marks_are}
use Rattle.line_finds.proofs.matches.Matches.renew_marks.Goals as goal

pub returns-clause-marks : goal.returns-clause-marks
returns-clause-marks c = λ k low. marks_are c.deref.result.now c.args.self.now (length c.args.marks.now.items) c.clear.new.marks.items (cc (c.deref.ensures.value, c.self.view_is)) c.clear.ensures c.mark_lines.ensures.set c.requires k low
