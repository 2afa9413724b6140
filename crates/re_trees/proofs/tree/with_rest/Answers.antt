use Rattle.re_trees.{proofs.{Prelude.{ap, ◌∙◌, arith, Cat}, lemmas.NodesLaws.{nodes-Cat, nodes_and_one}}, specs.Working.Nodes.{nodes_of_all, nodes_left}}
use Rattle.re_trees.proofs.tree.with_rest.Goals as goal

pub returns-in-Some : goal.returns-in-Some
returns-in-Some c =
    let all = ap nodes_of_all c.push_reserved.ensures.items ∙ nodes_and_one c.args.trees.items (Cat c.in-Some.rest) in
    let last = nodes-Cat c.in-Some.rest in
    let left = ap nodes_left c.in-Some.is in
    omega arith
