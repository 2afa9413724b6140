use Rattle.line_finds.proofs.lemmas.MarkLaws.{line_below}
use Rattle.line_finds.proofs.matches.set_marks.Goals as goal

pub bounds-marks-pair : goal.bounds-marks-pair
bounds-marks-pair c = line_below c.args.marks.now c.loop-pair.marks c.args.pairs.now c.loop-pair.pair-index c.loop-pair.invariant.1 c.loop-pair-test.true c.requires
