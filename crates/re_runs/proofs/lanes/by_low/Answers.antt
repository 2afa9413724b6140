use Rattle.re_runs.proofs.{Prelude.{◌≡◌, ℕ, ◌%◌, List, length, get_or, replicate, ◌∙◌, arith, bit_and, HasLanes, zip2, and_mask}, lemmas.NibbleLanes.{with_splat, may_look_up, looked_up}}
use Rattle.re_runs.proofs.lanes.by_low.Goals as goal

low : (v : List ℕ) → length v ≡ 32 → HasLanes (zip2 bit_and v (replicate 32 15)) (λ k. get_or v k 0 % 16)
low v long =
    let h = with_splat bit_and v 15 long in
    record { long = h.long; each = λ k l. h.each k l ∙ and_mask (get_or v k 0) 4 }

pub swizzle : goal.swizzle
swizzle c = may_look_up _ _ (low _ c.fits-v.0) (λ k l. omega arith)

pub returns : goal.returns
returns c = looked_up _ _ (low _ c.fits-v.0) (λ k l. omega arith) _ c.twice.ensures
