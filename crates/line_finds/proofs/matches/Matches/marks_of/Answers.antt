use Rattle.line_finds.proofs.{Prelude.◌∙◌, lemmas.MarkLaws.{all_below, marks_of_are}}
use Rattle.line_finds.proofs.matches.Matches.marks_of.Goals as goal

pub returns-clause-marks : goal.returns-clause-marks
returns-clause-marks c = λ k low. marks_of_are c.args.first c.args.count c.deref.result.now c.args.self.now c.args.size c.in_ok-marks.marks.items (cc (c.deref.ensures.value, c.self.view_is)) c.in_ok-marks.ensures.unset c.mark_lines_of.ensures.set c.requires.within k low

pub returns-clause-size : goal.returns-clause-size
returns-clause-size c = c.mark_lines_of.ensures.size ∙ c.in_ok-marks.ensures.size

pub mark_lines_of-requires : goal.mark_lines_of-requires
mark_lines_of-requires c = all_below c.deref.result.now c.args.self.now c.in_ok-marks.marks.items (cc (c.deref.ensures.value, c.self.view_is)) c.in_ok-marks.ensures.size c.requires.within
