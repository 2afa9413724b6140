use Rattle.re_runs.proofs.Prelude.{arith, w64, bit_at-trailing_zeros}
use Rattle.re_runs.proofs.lanes.lowest.Goals as goal

pub returns-clause-set : goal.returns-clause-set
returns-clause-set c = (bit_at-trailing_zeros w64 c.args.marks (omega arith) c.ranges.marks.fits).1

pub returns-clause-below : goal.returns-clause-below
returns-clause-below c = (bit_at-trailing_zeros w64 c.args.marks (omega arith) c.ranges.marks.fits).2

pub returns-clause-bound : goal.returns-clause-bound
returns-clause-bound c = (bit_at-trailing_zeros w64 c.args.marks (omega arith) c.ranges.marks.fits).0
