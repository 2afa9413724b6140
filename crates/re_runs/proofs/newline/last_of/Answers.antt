use Rattle.{re_runs.proofs.{lemmas.NewlineLaws.{none_left, last_left}}}
use Rattle.re_runs.proofs.newline.last_of.Goals as goal

pub returns-then-marks-eq0 : goal.returns-then-marks-eq0
returns-then-marks-eq0 c = none_left _ _ _ _ _ c.requires.few c.marks_of.ensures.marks c.marks_of.ensures.exact c.bits_below-marks.ensures.kept c.bits_below-marks.ensures.no_more c.if-marks-eq0.true

pub returns : goal.returns
returns c = last_left _ _ _ _ _ c.requires.few c.marks_of.ensures.marks c.marks_of.ensures.exact c.bits_below-marks.ensures.kept c.bits_below-marks.ensures.no_more _ c.highest.ensures.set c.highest.ensures.above
