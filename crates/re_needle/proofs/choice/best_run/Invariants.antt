use Rattle.re_needle.proofs.Prelude.{◌≤◌}
use Rattle.re_needle.proofs.choice.best_run.Given as goal

abbrev pub invariant-marks : goal.invariant-marks
invariant-marks l = record { now : l.now.start ≤ l.place; best : l.best.start ≤ l.place }
