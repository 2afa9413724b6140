use Rattle.re_trees.proofs.{Prelude.arith, lemmas.SetBits.members-complement}
use Rattle.re_trees.proofs.bytes.ByteSet.complement.Goals as goal

pub returns : goal.returns
returns c = members-complement c.args.self (omega arith) (omega arith)
