use Rattle.re_ends.proofs.{Prelude.{arith, eqb-true}, lemmas.PrecedingLaws.only_one}
use Rattle.re_ends.proofs.preceding.is_only.Goals as goal

pub returns : goal.returns
returns c = λ is. only_one c.args.set.now c.args.range c.args.p c.requires (omega (arith, c.if-range-k.false)) (omega (arith, c.if-range-k-2.false)) (eqb-true _ _ is)
