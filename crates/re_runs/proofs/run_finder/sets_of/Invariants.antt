use Rattle.re_runs.proofs.Prelude.{◌≡◌, map, take, only, members}
use Rattle.re_runs.proofs.run_finder.sets_of.Given as goal

abbrev pub invariant-bytes : goal.invariant-bytes
invariant-bytes l = map members l.sets.items ≡ map only (take l.place l.text)
