use Rattle.re_auto.proofs.Prelude.{arith, rfl}
use Rattle.re_auto.proofs.build.rows.takers_of.Goals as goal

pub returns-then-wanted : goal.returns-then-wanted
returns-then-wanted c = λ x lt. rw c.if-wanted.true rfl

pub returns : goal.returns
returns c = λ x lt. grind (arith, c.complement.ensures x lt)
