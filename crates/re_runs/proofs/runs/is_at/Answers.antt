use Rattle.re_runs.proofs.Prelude.{arith, false≢true, length-map, members}
use Rattle.re_runs.proofs.runs.is_at.Goals as goal

pub returns-then-run-line : goal.returns-then-run-line
returns-then-run-line c = (λ t. absurd (false≢true t), λ is. absurd (omega (arith, length-map c.args.run.now members)))
