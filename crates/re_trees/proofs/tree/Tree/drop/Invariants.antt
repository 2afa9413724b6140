use Rattle.re_trees.{proofs.Prelude.◌+◌, specs.Working.Nodes.{nodes_of, nodes_left}}
use Rattle.re_trees.proofs.tree.Tree.drop.Given as goal

abbrev pub decreases-trees : goal.decreases-trees
decreases-trees l = nodes_of l.self + nodes_left l.rest
