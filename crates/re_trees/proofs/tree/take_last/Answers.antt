use Rattle.re_trees.{proofs.{Prelude.{ap, ◌∙◌, arith}, lemmas.NodesLaws.nodes_and_one}, specs.Working.Nodes.nodes_of_all}
use Rattle.re_trees.proofs.tree.take_last.Goals as goal

pub returns-in-Some : goal.returns-in-Some
returns-in-Some c =
    let all = ap nodes_of_all c.in-Some.ensures.items ∙ nodes_and_one c.pop.new.self.items c.in-Some.last in
    let more = c.with_rest.ensures in
    (omega arith, omega arith)
