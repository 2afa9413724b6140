use Rattle.re_match.proofs.lemmas.StepSums.{walked_adds}
use Rattle.re_match.proofs.cached.Cached.find_in.Goals as goal

pub find-requires-clause-border : goal.find-requires-clause-border
find-requires-clause-border c = rw (← c.self.view_is) at c.requires.border

pub returns-clause-found : goal.returns-clause-found
returns-clause-found c = rw (← c.self.view_is) c.find.ensures.found

pub returns-clause-steps : goal.returns-clause-steps
returns-clause-steps c = walked_adds _ c.find.ensures.counted
