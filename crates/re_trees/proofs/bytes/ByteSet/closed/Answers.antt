use Rattle.re_trees.proofs.lemmas.SetBits.{members-closed}
use Rattle.re_trees.proofs.bytes.ByteSet.closed.Goals as goal

pub returns : goal.returns
returns c = members-closed _ _ c.word_of-upper.ensures
