use Rattle.re_auto.proofs.{Prelude.{arith, refl, true≢false, sym}, lemmas.BitLemmas.{common, no_common}}
use Rattle.re_auto.proofs.bits.meets.Goals as goal

pub returns-then-a-k-ne0 : goal.returns-then-a-k-ne0
returns-then-a-k-ne0 c = (λ h. common c.args.a.now c.args.b.now c.words.k (c.type_inv.a c.words.k).fits c.if-a-k-ne0.true, λ h. refl)

pub returns : goal.returns
returns c = (λ h. absurd (true≢false (sym h)), λ m. absurd (no_common _ _ _ c.words.invariant (omega arith) _ m.1 m.2))
