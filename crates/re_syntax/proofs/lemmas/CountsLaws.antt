-- The counts of an interval as a reader keeps them: capped, and so allowed or refused like the
-- numbers themselves.
use Rattle.re_syntax.proofs.Prelude.{◌≡◌, ℕ, Option, Some, None, refl, ap, arith, option_map, FaultKind, IsAllowed, capped, IsDisallowed, least_too_large, most_too_large, descending}

-- counts that are allowed though capped are the numbers themselves
pub record AreCounts (a l : ℕ) (x m : Option ℕ) : Type 0 where
  pub least : a ≡ l
  pub most : x ≡ m

-- counts that are allowed are below the cap, so they are the numbers themselves
pub are_counts : {a l : ℕ} (x m : Option ℕ) → a ≡ capped l → x ≡ option_map capped m → IsAllowed a x → AreCounts a l x m
are_counts None None e f h = record { least = omega (arith, h.least_fits); most = refl }
are_counts None (Some n) e f h = cc
are_counts (Some k) None e f h = cc
are_counts (Some k) (Some n) e f h =
    let same : k ≡ capped n = cc in
    record { least = omega (arith, h.least_fits); most = ap Some (omega (arith, h.most_fits)) }

-- numbers whose capped counts are refused are refused
pub disallowed_too : {kind : FaultKind} {a : ℕ} {x : Option ℕ} → IsDisallowed kind a x → {l : ℕ} (m : Option ℕ) → a ≡ capped l → x ≡ option_map capped m → IsDisallowed kind l m
disallowed_too (least_too_large h) m e f = least_too_large (omega arith)
disallowed_too (most_too_large h) None e f = cc
disallowed_too (most_too_large {top = k} h) (Some n) e f = let same : k ≡ capped n = cc in most_too_large (omega arith)
disallowed_too (descending h small) None e f = cc
disallowed_too (descending {top = k} h small) (Some n) e f = let same : k ≡ capped n = cc in descending (omega arith) (omega arith)

-- counts that are refused are not allowed
pub not_allowed : {kind : FaultKind} {least : ℕ} {most : Option ℕ} → IsDisallowed kind least most → IsAllowed least most → ⊥
not_allowed (least_too_large h) a = absurd (omega (arith, a.least_fits))
not_allowed (most_too_large h) a = absurd (omega (arith, a.most_fits))
not_allowed (descending h small) a = absurd (omega (arith, a.ordered))
