use Rattle.re_runs.proofs.Prelude.{Nowhere, members_of, RunStandsAt}
use Rattle.re_runs.proofs.set_finder.SetFinder.first_of_few.Given as goal

abbrev pub invariant-places : goal.invariant-places
invariant-places l = Nowhere (RunStandsAt l.line (members_of l.self)) 0 l.place
