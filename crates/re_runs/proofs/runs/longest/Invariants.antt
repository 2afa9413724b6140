use Rattle.re_runs.proofs.Prelude.{◌≡◌, take, longest_of, sets_of_each}
use Rattle.re_runs.proofs.runs.longest.Given as goal

abbrev pub invariant-runs : goal.invariant-runs
invariant-runs l = l.longest ≡ longest_of (sets_of_each (take l.number l.runs))
