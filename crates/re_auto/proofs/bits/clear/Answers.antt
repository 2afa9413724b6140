use Rattle.re_auto.proofs.{Prelude.{arith, refl}, lemmas.BitLemmas.all_zero}
use Rattle.re_auto.proofs.bits.clear.Goals as goal

pub returns-clause-none : goal.returns-clause-none
returns-clause-none c = all_zero c.fill.new.self (λ k lt. c.fill.ensures.clones k 0 (omega arith) refl)
