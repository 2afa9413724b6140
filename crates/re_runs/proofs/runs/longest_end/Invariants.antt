use Rattle.re_runs.proofs.{Prelude.sets_of_each, lemmas.RunLaws.IsLongestOf}
use Rattle.re_runs.proofs.runs.longest_end.Given as goal

abbrev pub invariant-runs : goal.invariant-runs
invariant-runs l = IsLongestOf l.line l.place (sets_of_each l.runs) l.number l.longest
