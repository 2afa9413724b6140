use Rattle.re_syntax.proofs.{Prelude.{◌∙◌, ◌++◌, codes, arith, below_more, Begins, class_name, left}, lemmas.{ClassNames.each_class, BracketPoints.not_begins_along}}
use Rattle.re_syntax.proofs.bracket.take_class.Goals as goal

pub loop-class-preserved : goal.loop-class-preserved
loop-class-preserved c = (
  c.if-skip.ensures.else_same ∙ c.loop-class.invariant.0,
  below_more _ _ c.loop-class.invariant.1 (not_begins_along c.if-skip.ensures.skipped c.closed_name.ensures (rw c.loop-class.invariant.0)),
)

pub returns : goal.returns
returns c = each_class (λ d. ¬ Begins (class_name d ++ codes ":]") (left c.args.cursor.now)) (λ k below. c.loop-class.invariant.1 k (omega arith))
