use Rattle.re_runs.proofs.Prelude.{◌≡◌, ℕ, ◌<◌, slice_index}
use Rattle.re_runs.proofs.run_finder.begins_with.Given as goal

abbrev pub invariant-bytes : goal.invariant-bytes
invariant-bytes l = (j : ℕ) → j < l.place → slice_index l.line j ≡ slice_index l.text j
