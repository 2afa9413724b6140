use Rattle.re_runs.proofs.lemmas.NibbleLanes.{lesser_lanes}
use Rattle.re_runs.proofs.lanes.lesser.Goals as goal

pub returns : goal.returns
returns c = lesser_lanes _ _ c.fits-a.0 c.fits-b.0
