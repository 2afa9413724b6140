use Rattle.re_runs.proofs.lemmas.RunLaws.{seen_runs}
use Rattle.re_runs.proofs.set_finder.SetFinder.longest.Goals as goal

pub returns : goal.returns
returns c = cc (c.self.invariant.longest, seen_runs _ _ c.self.view_is)
