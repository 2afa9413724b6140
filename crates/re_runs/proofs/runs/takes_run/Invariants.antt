use Rattle.re_runs.proofs.Prelude.{ℕ, IsTrue, ◌+◌, ◌<◌, map, slice_index, members, set_at}
use Rattle.re_runs.proofs.runs.takes_run.Given as goal

abbrev pub invariant-sets : goal.invariant-sets
invariant-sets l = (k : ℕ) → k < l.j → IsTrue (set_at (map members l.run) k (slice_index l.line (l.place + k)))
