use Rattle.re_runs.proofs.Prelude.{runs_of}
use Rattle.re_runs.proofs.block.first_line_with_run.Goals as goal

pub returns-clause-passes : goal.returns-clause-passes
returns-clause-passes c = c.swept_at.ensures.passes (runs_of c.args.finder.now) c.find-found.ensures.found

pub returns-clause-found : goal.returns-clause-found
returns-clause-found c = rw c.swept_at.ensures.place c.find-found.ensures.found

pub returns-clause-counted : goal.returns-clause-counted
returns-clause-counted c = rw c.swept_at.ensures.place c.find-found.ensures.counted
