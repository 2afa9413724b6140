use Rattle.line_finds.proofs.{Prelude.◌∙◌, lemmas.MarkLaws.{all_below, marks_are}}
use Rattle.line_finds.proofs.matches.Matches.marks.Goals as goal

pub mark_lines-requires : goal.mark_lines-requires
mark_lines-requires c = all_below c.deref.result.now c.args.self.now c.in_ok-marks.marks.items (cc (c.deref.ensures.value, c.self.view_is)) c.in_ok-marks.ensures.size c.requires.within

pub returns-clause-marks : goal.returns-clause-marks
returns-clause-marks c = λ k low. marks_are c.deref.result.now c.args.self.now c.args.size c.in_ok-marks.marks.items (cc (c.deref.ensures.value, c.self.view_is)) c.in_ok-marks.ensures.unset c.mark_lines.ensures.set c.requires.within k low

pub returns-clause-size : goal.returns-clause-size
returns-clause-size c = c.mark_lines.ensures.size ∙ c.in_ok-marks.ensures.size
