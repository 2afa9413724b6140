use Rattle.re_runs.proofs.lemmas.RunLaws.{seen_runs}
use Rattle.re_runs.proofs.set_finder.SetFinder.longest_end.Goals as goal

pub returns : goal.returns
returns c = rw (seen_runs _ _ c.self.view_is, ← c.deref.ensures.value) c.longest_end.ensures
