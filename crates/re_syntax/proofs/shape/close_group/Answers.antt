use Rattle.re_syntax.proofs.{Prelude.{refl, rules, [], ◌≡◌}, lemmas.ShapeLaws.{group_left, none_left}}
use Rattle.re_syntax.proofs.shape.close_group.Goals as goal

pub returns-in_default : goal.returns-in_default
returns-in_default c =
    let none : c.args.shape.now.groups.items ≡ [] = search rules in
    rw c.in_default.ensures.empty (none_left none)

pub returns : goal.returns
returns c = group_left _ c.in-Some.ensures.items c.positions-positions.ensures refl refl c.max-shape.ensures refl refl
