use Rattle.re_trees.{proofs.{Prelude.{ap, ◌∙◌, arith}, lemmas.NodesLaws.nodes_and_one}, specs.Working.Nodes.nodes_of_all}
use Rattle.re_trees.proofs.tree.Tree.drop.Goals as goal

pub trees-smaller : goal.trees-smaller
trees-smaller c =
    let all = ap nodes_of_all c.in-Some-pop.ensures.items ∙ nodes_and_one c.pop.new.self.items c.in-Some-pop.tree in
    let less = c.in-Some.ensures in
    omega arith
