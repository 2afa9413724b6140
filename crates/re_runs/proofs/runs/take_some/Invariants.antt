use Rattle.re_runs.proofs.Prelude.{ℕ, List, Bytes, get_or, RunIsAt, sets_of_each, ◌<◌}
use Rattle.re_runs.proofs.runs.take_some.Given as goal

abbrev pub invariant-runs : goal.invariant-runs
invariant-runs l = (n : ℕ) (d : List Bytes) → n < l.number → ¬ RunIsAt l.line l.place (get_or (sets_of_each l.runs) n d)
