use Rattle.re_auto.proofs.{Prelude.{◌≡◌, rules, tests, ◌≢◌, cases_from_all, YieldsList-from_slice}, lemmas.BitLemmas.clear_says}
use Rattle.re_auto.proofs.bits.is_clear.Goals as goal

pub returns : goal.returns
returns c =
    clear_says _ _ (λ k. (c.type_inv.words k).fits)
    (cases_from_all _ _ _ (λ x. x ≡ 0) (λ x. x ≢ 0) c.all.ensures.ran (YieldsList-from_slice c.args.words.now cc) (λ x q k. search (rules, tests)) (λ x q k. search (rules, tests)))
