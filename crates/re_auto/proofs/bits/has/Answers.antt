use Rattle.re_auto.proofs.lemmas.BitLemmas.{has_bit}
use Rattle.re_auto.proofs.bits.has.Goals as goal

pub returns : goal.returns
returns c = has_bit _ _
