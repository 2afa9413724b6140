use Rattle.re_runs.proofs.lemmas.RunLaws.{finds_text}
use Rattle.re_runs.proofs.run_finder.RunFinder.find.Goals as goal

pub returns-in-Text-clause-found : goal.returns-in-Text-clause-found
returns-in-Text-clause-found c = rw c.in-Text.is (finds_text _ _ _ c.find_text.ensures.found)

pub returns-in-Sets-clause-found : goal.returns-in-Sets-clause-found
returns-in-Sets-clause-found c = rw c.in-Sets.is c.find.ensures.found
