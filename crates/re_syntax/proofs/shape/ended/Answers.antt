use Rattle.re_syntax.proofs.{Prelude.{rules, [], ◌≡◌}, lemmas.ShapeLaws.ends_whole}
use Rattle.re_syntax.proofs.shape.ended.Goals as goal

pub returns-in-None-clause-whole : goal.returns-in-None-clause-whole
returns-in-None-clause-whole c =
    let none : c.args.shape.now.groups.items ≡ [] = search rules in
    ends_whole c.positions-positions.ensures none
