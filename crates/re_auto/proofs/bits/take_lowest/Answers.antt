use Rattle.re_auto.proofs.{Prelude.arith, lemmas.BitLemmas.lowest}
use Rattle.re_auto.proofs.bits.take_lowest.Goals as goal

pub returns : goal.returns
returns c = assumption (lowest c.args.left.now c.requires (omega arith))
