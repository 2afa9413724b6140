use Rattle.re_syntax.proofs.lemmas.BuildingLaws.{repeated_trees}
use Rattle.re_syntax.proofs.building.repeat_one.Goals as goal

pub returns-clause-made : goal.returns-clause-made
returns-clause-made c =
    repeated_trees _ _ _ _ _ c.in-Some.ensures.items c.in_ok-tree.ensures.made c.in_ok-add.ensures.added
