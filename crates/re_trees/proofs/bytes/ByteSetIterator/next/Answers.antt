use Rattle.re_trees.proofs.lemmas.SetBits.{takes_high}
use Rattle.re_trees.proofs.bytes.ByteSetIterator.next.Goals as goal

pub returns-then-self-ne0-2-clause-steps : goal.returns-then-self-ne0-2-clause-steps
returns-then-self-ne0-2-clause-steps c = takes_high _ _ _ c.take_lowest-then-self-ne0-2.ensures.held c.take_lowest-then-self-ne0-2.ensures.rest
