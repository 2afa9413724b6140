use Rattle.re_trees.proofs.lemmas.SetBits.{members-union}
use Rattle.re_trees.proofs.bytes.ByteSet.union.Goals as goal

pub returns : goal.returns
returns c = members-union _ _
