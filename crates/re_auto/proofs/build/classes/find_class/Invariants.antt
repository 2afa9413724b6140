use Rattle.re_auto.proofs.Prelude.{◌≢◌, ℕ, ◌<◌, row_of}
use Rattle.re_auto.proofs.build.classes.find_class.Given as goal

abbrev pub invariant-classes : goal.invariant-classes
invariant-classes l = (k : ℕ) → k < l.class → row_of l.takes l.width k ≢ l.row
