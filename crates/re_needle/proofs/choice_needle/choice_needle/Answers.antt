use Rattle.{re_needle.proofs.{Prelude.{alt, map, expression_of}, lemmas.NeedleLaws.alone}, re_trees.proofs.lemmas.ExpressionLaws.expression-Alt}
use Rattle.re_needle.proofs.choice_needle.choice_needle.Goals as goal

pub returns : goal.returns
returns c = rw c.in-Alt.is (rw (expression-Alt c.in-Alt.branches) (alone _ _ (rw c.deref.ensures.value at c.needle_around.ensures)))
