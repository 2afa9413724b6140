use Rattle.re_strings.proofs.Prelude.{◌≡◌, ℕ, ◌+◌, ◌<◌, ◌≤◌, ◌-◌, length, slice_index, pair_row}
use Rattle.re_strings.proofs.leaps.shorten.Given as goal

abbrev pub invariant-pairs : goal.invariant-pairs
invariant-pairs l = record {
  from : 2 ≤ l.end;
  full : length l.shifts.items ≡ 32896;
  lower : (n : ℕ) → slice_index l.shifts.items n ≤ slice_index l.fn.shifts.items n;
  short : (j : ℕ) → j + 2 < l.end → slice_index l.shifts.items (pair_row (slice_index l.string j) (slice_index l.string (j + 1))) + j + 2 ≤ l.window;
}

abbrev pub decreases-pairs : goal.decreases-pairs
decreases-pairs l = l.window + 1 - l.end
