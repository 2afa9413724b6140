-- Counts that stay at the greatest number.
use Rattle.memory_files.proofs.Prelude.{◌≡◌, ℕ, zero, suc, ◌+◌, ◌-◌, ◌^◌, ◌≤◌, min, ap, ◌∙◌, arith, one_more, count_more}

-- many failures are counted by one sum
pub many_counted : (n more : ℕ) → n ≤ 2 ^ 64 - 1 → min (n + more) (2 ^ 64 - 1) ≡ count_more n more
many_counted n zero h = omega arith
many_counted n (suc more) h = sum ∙ ap one_more (many_counted n more h) where
  sum : min (n + suc more) (2 ^ 64 - 1) ≡ one_more (min (n + more) (2 ^ 64 - 1))
  sum = omega arith
