use Rattle.re_runs.proofs.Prelude.{length-chunk, get_or-chunk}
use Rattle.re_runs.proofs.lanes.load.Goals as goal

pub returns : goal.returns
returns c = record { long = length-chunk c.args.i 32 c.args.line.now c.requires; each = λ k l. get_or-chunk c.args.i 32 c.args.line.now k 0 l }
