-- The first text of a pattern list, and the first line of an input, by the place of the first
-- newline.
use Rattle.re_trees.proofs.Prelude.{◌≡◌, ℕ, zero, suc, ◌<◌, nat_eq, true, false, [], ◌∷◌, length, take, drop, get_or, refl, arith, cond-true, cond-false, Text, newline, list_of, lines_of}

-- the first pattern ends at the first newline
pub list_of-at : (t : Text) (i : ℕ) → i < length t → nat_eq (get_or t i 0) newline ≡ true → ((k : ℕ) → k < i → nat_eq (get_or t k 0) newline ≡ false) →
    list_of t ≡ take i t ∷ list_of (drop (suc i) t)
unfolding list_of
list_of-at [] i h e f = absurd (omega arith)
list_of-at (b ∷ t) zero h e f = cond-true _ _ _ e
list_of-at (b ∷ t) (suc i) h e f = rw (f zero (omega arith), list_of-at t i (omega arith) e (λ k below. f (suc k) (omega arith)))

-- a list without newline is one pattern
pub list_of-none : (t : Text) → ((k : ℕ) → k < length t → nat_eq (get_or t k 0) newline ≡ false) → list_of t ≡ t ∷ []
unfolding list_of
list_of-none [] f = refl
list_of-none (b ∷ t) f = rw (f zero (omega arith), list_of-none t (λ k below. f (suc k) (omega arith)))

-- the first line goes up to the first newline
pub lines_of-at : (t : Text) (i : ℕ) → i < length t → nat_eq (get_or t i 0) newline ≡ true → ((k : ℕ) → k < i → nat_eq (get_or t k 0) newline ≡ false) →
    lines_of t ≡ take i t ∷ lines_of (drop (suc i) t)
unfolding lines_of
lines_of-at [] i h e f = absurd (omega arith)
lines_of-at (b ∷ t) zero h e f = cond-true _ _ _ e
lines_of-at (b ∷ t) (suc i) h e f = rw (f zero (omega arith), lines_of-at t i (omega arith) e (λ k below. f (suc k) (omega arith)))

-- an input without newline is one line, unless it is empty
pub lines_of-none : (t : Text) → 0 < length t → ((k : ℕ) → k < length t → nat_eq (get_or t k 0) newline ≡ false) → lines_of t ≡ t ∷ []
unfolding lines_of
lines_of-none [] h f = absurd (omega arith)
lines_of-none (b ∷ []) h f = cond-false _ _ _ (f zero (omega arith))
lines_of-none (b ∷ c ∷ t) h f = rw (f zero (omega arith), lines_of-none (c ∷ t) (omega arith) (λ k below. f (suc k) (omega arith)))

-- an empty input has no line
pub lines_of-empty : (t : Text) → length t ≡ 0 → lines_of t ≡ []
unfolding lines_of
lines_of-empty [] h = refl
lines_of-empty (b ∷ t) h = absurd (omega arith)

-- no line follows the whole input
pub lines_of-beyond : (t : Text) → lines_of (drop (length t) t) ≡ []
unfolding lines_of
lines_of-beyond [] = refl
lines_of-beyond (b ∷ t) = lines_of-beyond t
