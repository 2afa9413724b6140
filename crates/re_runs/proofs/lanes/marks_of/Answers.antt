use Rattle.re_runs.proofs.lemmas.NewlineLaws.{marked, exact}
use Rattle.re_runs.proofs.lanes.marks_of.Goals as goal

pub returns-clause-marks : goal.returns-clause-marks
returns-clause-marks c = marked _ _ c.args.byte _ c.load.ensures

pub returns-clause-exact : goal.returns-clause-exact
returns-clause-exact c = exact _ _ c.args.byte _ c.load.ensures
