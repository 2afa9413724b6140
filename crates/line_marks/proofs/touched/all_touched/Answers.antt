use Rattle.line_marks.proofs.{Prelude.arith, lemmas.TakeLemmas.{few_wide, takes_all}}
use Rattle.line_marks.proofs.touched.all_touched.Goals as goal

pub widened-requires : goal.widened-requires
widened-requires c = omega (arith, few_wide _ _ _ _ c.taken-all.ensures.takes c.taken-all.ensures.near c.requires.counted)

pub returns : goal.returns
returns c = takes_all _ _ _ _ c.taken-all.ensures.takes _ c.taken-all.ensures.near c.widened.ensures.one c.widened.ensures.many c.widened.ensures.lead
