use Rattle.re_runs.proofs.Prelude.{ℕ, List, Bytes, get_or, length, sets_of_each, ◌<◌, ◌≤◌}
use Rattle.re_runs.proofs.runs.shortest.Given as goal

abbrev pub invariant-runs : goal.invariant-runs
invariant-runs l = (n : ℕ) (d : List Bytes) → n < l.number → n < length l.runs → l.width ≤ length (get_or (sets_of_each l.runs) n d)
