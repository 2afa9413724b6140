use Rattle.re_runs.proofs.lemmas.NibbleLanes.{equal_lanes}
use Rattle.re_runs.proofs.lanes.with_bits.Goals as goal

pub returns : goal.returns
returns c = equal_lanes _ _ _ _ c.fits-v.0 c.both.ensures
