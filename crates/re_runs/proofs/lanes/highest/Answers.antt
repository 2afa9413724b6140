use Rattle.memchr.proofs.lemmas.BitLemmas.{bit_at_above}
use Rattle.re_runs.proofs.lanes.highest.Goals as goal

pub returns-clause-above : goal.returns-clause-above
returns-clause-above c k l = bit_at_above _ _ k c.ilog2.ensures.next_power_gt l
