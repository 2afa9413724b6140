use Rattle.re_runs.proofs.lemmas.NibbleLanes.{nonzero_bits}
use Rattle.re_runs.proofs.lanes.nonzero.Goals as goal

pub returns : goal.returns
returns c k = nonzero_bits _ k c.fits-v.0
