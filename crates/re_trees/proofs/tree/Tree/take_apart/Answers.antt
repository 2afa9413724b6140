use Rattle.re_trees.proofs.Prelude.{arith}
use Rattle.re_trees.proofs.tree.Tree.take_apart.Goals as goal

pub returns-in-None : goal.returns-in-None
returns-in-None c =
    let less = rw c.in-None.is at c.take_part-part.ensures in
    let kept = c.parts.invariant in
    omega arith

pub parts-smaller : goal.parts-smaller
parts-smaller c = (rw c.in-Some.is at c.take_part-part.ensures).0
