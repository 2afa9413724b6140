-- Counts that stop at the greatest u64.
use Rattle.{std.proofs.Common.{◌≡◌, ℕ, zero, suc, ◌+◌, ◌-◌, ◌^◌, ◌≤◌, min, ap, ◌∙◌, arith}, grep_core.specs.{Counted.one_more, Run.count_more}}

-- counting k more is one sum
pub count_more-sum : (n k : ℕ) → n ≤ 2 ^ 64 - 1 → count_more n k ≡ min (n + k) (2 ^ 64 - 1)
count_more-sum n zero fits = omega (arith, fits)
count_more-sum n (suc k) fits =
    let once : min (min (n + k) (2 ^ 64 - 1) + 1) (2 ^ 64 - 1) ≡ min (n + suc k) (2 ^ 64 - 1) = omega arith in
    ap one_more (count_more-sum n k fits) ∙ once
