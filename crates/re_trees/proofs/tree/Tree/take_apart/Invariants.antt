use Rattle.re_trees.{proofs.Prelude.{◌+◌, ◌≤◌}, specs.Working.Nodes.{nodes_of, nodes_left}}
use Rattle.re_trees.proofs.tree.Tree.take_apart.Given as goal

abbrev pub invariant-parts : goal.invariant-parts
invariant-parts l = nodes_of l.self + nodes_left l.left ≤ nodes_of l.fn.self + nodes_left l.fn.rest

abbrev pub decreases-parts : goal.decreases-parts
decreases-parts l = nodes_of l.self
