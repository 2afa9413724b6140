-- The best stretch up to a place, and up to the next one.
use Rattle.re_trees.proofs.Prelude.{◌≡◌, ℕ, suc, ◌≤◌, Bool, true, false, ◌⊎◌, inl, inr, Option, Some, None, refl, arith, nat_le, if◌then◌else◌, leb-true, leb-false, eq-or-lt_of_le, Least, IsBest, better, places, better_span, Span}

-- a place up to the next one is the next one, or it is up to this one
pub next_or_before : (l to : ℕ) → l ≤ suc to → (l ≡ suc to) ⊎ (l ≤ to)
next_or_before l to le = elim (eq-or-lt_of_le le) [ inl e ↦ inl e | inr h ↦ inr (omega arith) ]

-- for the stretches of any relation, the least start at the next end is enough for the best
pub best_so_far : (R : ℕ → ℕ → Type 0) (to : ℕ) (best : Option (ℕ × ℕ)) (reported : Option ℕ) → IsBest R to best
    → Least (λ i. R i (suc to)) reported → IsBest R (suc to) (better best (suc to) reported)
best_so_far R to None None none reported = λ i j le r.
    elim (next_or_before j to le) [ inl e ↦ reported i (rw e at r) | inr le ↦ none i j le r ]
best_so_far R to (Some (i, j)) None (r, le, early, long) reported = (
  r,
  omega arith,
  (λ k l m s. elim (next_or_before l to m) [ inl e ↦ absurd (reported k (rw e at s)) | inr m ↦ early k l m s ]),
  (λ l m s. elim (next_or_before l to m) [ inl e ↦ absurd (reported i (rw e at s)) | inr m ↦ long l m s ]),
)
best_so_far R to None (Some k) none (r, least) = (r, omega arith, (λ i l m s. elim (next_or_before l to m) [ inl e ↦ least i (rw e at s) | inr m ↦ absurd (none i l m s) ]), (λ l m s. m))
best_so_far R to (Some (i, j)) (Some k) (r, le, early, long) (t, least) = go _ refl
  where
    go : (b : Bool) → nat_le k i ≡ b → IsBest R (suc to) (if b then Some (k, suc to) else Some (i, j))
    go true is =
        let small = leb-true k i is in (t, omega arith, (λ h l m s. elim (next_or_before l to m) [ inl e ↦ least h (rw e at s) | inr m ↦ omega (arith, early h l m s) ]), (λ l m s. m))
    go false is =
        let large = leb-false k i is in (
          r,
          omega arith,
          (λ h l m s. elim (next_or_before l to m) [ inl e ↦ omega (arith, least h (rw e at s)) | inr m ↦ early h l m s ]),
          (λ l m s. elim (next_or_before l to m) [ inl e ↦ absurd (omega (arith, least i (rw e at s))) | inr m ↦ long l m s ]),
        )

-- their places decide which of two spans is better
pub better_places : (best : Option Span) (start to : ℕ) → places (better_span best (record { start = start; end = to })) ≡ better (places best) to (Some start)
better_places best start to = grind arith
