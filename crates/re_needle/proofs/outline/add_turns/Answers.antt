use Rattle.re_needle.proofs.{Prelude.{rules, ◌≡◌, ◌++◌, ◌∷◌, []}, lemmas.OutlineLaws.adds_turn}
use Rattle.re_needle.specs.declared.outline_item.OutlineItem.TheVariants as m
use Rattle.re_needle.proofs.outline.add_turns.Goals as goal

pub turns-preserved : goal.turns-preserved
turns-preserved c =
    let added : c.push.new.self.items ≡ c.turns.marks.items ++ m.Set c.args.set ∷ [] = search rules in
    adds_turn _ _ _ _ c.turns.invariant added
