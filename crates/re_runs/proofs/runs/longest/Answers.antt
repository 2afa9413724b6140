use Rattle.{re_runs.proofs.{Prelude.arith, lemmas.RunLaws.longest_more}, std.proofs.Common.take_all}
use Rattle.re_runs.proofs.runs.longest.Goals as goal

pub runs-preserved : goal.runs-preserved
runs-preserved c = omega (arith, longest_more _ _ _ c.runs-test.true c.index-runs-number.is)

pub returns : goal.returns
returns c = cc (c.runs.invariant, take_all c.runs.number c.args.runs.now (omega arith))
