use Rattle.{re_runs.proofs.Prelude.bit_and, memchr.proofs.lemmas.LaneLemmas.HasLanes-zip2}
use Rattle.re_runs.proofs.lanes.both.Goals as goal

pub returns : goal.returns
returns c = HasLanes-zip2 bit_and c.args.a c.args.b c.fits-a.0 c.fits-b.0
