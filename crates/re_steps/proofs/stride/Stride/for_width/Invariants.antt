use Rattle.re_steps.proofs.Prelude.{◌-◌, ◌≤◌}
use Rattle.re_steps.proofs.stride.Stride.for_width.Given as goal

abbrev pub invariant-shifts : goal.invariant-shifts
invariant-shifts l = record {
  few : l.shift ≤ 8;
}

abbrev pub decreases-shifts : goal.decreases-shifts
decreases-shifts l = 8 - l.shift
