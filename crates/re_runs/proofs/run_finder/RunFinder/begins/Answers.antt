use Rattle.re_runs.proofs.Prelude.{◌↔◌, IsTrue, map, only, one_run, subst, RunStandsAt}
use Rattle.re_runs.proofs.run_finder.RunFinder.begins.Goals as goal

pub returns-in-Text-clause-reported : goal.returns-in-Text-clause-reported
returns-in-Text-clause-reported c =
    rw c.in-Text.is (subst (λ text. IsTrue c.begins_with.result ↔ RunStandsAt c.args.line.now (one_run (map only text)) 0) c.needle-text.ensures c.begins_with.ensures)

pub returns-in-Sets-clause-reported : goal.returns-in-Sets-clause-reported
returns-in-Sets-clause-reported c = rw c.in-Sets.is c.begins.ensures
