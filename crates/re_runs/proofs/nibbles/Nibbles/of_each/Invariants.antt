use Rattle.re_runs.proofs.Prelude.{ℕ, ◌<◌, ◌%◌, List, Bytes, get_or, length, HasBitFor, set_at, sets_of_each}
use Rattle.re_runs.proofs.nibbles.Nibbles.of_each.Given as goal

abbrev pub invariant-runs : goal.invariant-runs
invariant-runs l = (n : ℕ) (d : List Bytes) → n < l.number → n < length l.runs → HasBitFor l.nibbles (n % 8) (set_at (get_or (sets_of_each l.runs) n d) l.at)
