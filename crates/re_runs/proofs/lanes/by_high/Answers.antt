use Rattle.{re_runs.proofs.{Prelude.{◌≡◌, ℕ, ◌/◌, ◌^◌, ◌<◌, List, length, get_or, arith, w8, Each1-get_or, Each1}, lemmas.NibbleLanes.{with_splat, may_look_up, looked_up}}, std.proofs.Common.Fits}
use Rattle.re_runs.proofs.lanes.by_high.Goals as goal

small : (v : List ℕ) → length v ≡ 32 → Each1 (Fits w8) v → (k : ℕ) → k < 32 → get_or v k 0 / 16 < 16
small v long fits k l = omega (arith, (Each1-get_or (Fits w8) v k 0 (omega arith) fits).fits)

pub swizzle : goal.swizzle
swizzle c = may_look_up _ _ (with_splat (λ a b. a / 2 ^ b) _ 4 c.fits-v.0) (small c.args.v c.fits-v.0 c.fits-v.1)

pub returns : goal.returns
returns c = looked_up _ _ (with_splat (λ a b. a / 2 ^ b) _ 4 c.fits-v.0) (small c.args.v c.fits-v.0 c.fits-v.1) _ c.twice.ensures
