use Rattle.re_needle.proofs.{Prelude.expression_of, lemmas.OutlineLaws.outline_around}
use Rattle.re_needle.proofs.choice_needle.outline_around.Goals as goal

pub returns : goal.returns
returns c = outline_around _ _ _ _ _ _ c.new-marks.ensures.items c.in_ok-add_parts.ensures c.in_ok-add_outline.ensures c.in_ok-add_parts-2.ensures
