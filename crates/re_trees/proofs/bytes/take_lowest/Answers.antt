use Rattle.re_trees.proofs.{Prelude.arith, lemmas.SetBits.lowest}
use Rattle.re_trees.proofs.bytes.take_lowest.Goals as goal

pub returns : goal.returns
returns c = lowest _ c.requires (omega arith)
