-- The first word of a line, by the place of its first space.
use Rattle.script_commands.proofs.Prelude.{◌≡◌, ℕ, zero, suc, ◌<◌, nat_eq, true, false, [], ◌∷◌, length, take, drop, get_or, refl, ap, ◌∙◌, arith, cond-true, cond-false, Text, put_before, space, words_of}

-- the first word ends at the first space
pub words_of-at : (t : Text) (i : ℕ) → i < length t → nat_eq (get_or t i 0) space ≡ true → ((k : ℕ) → k < i → nat_eq (get_or t k 0) space ≡ false) →
    words_of t ≡ take i t ∷ words_of (drop (suc i) t)
unfolding words_of
words_of-at [] i h e f = absurd (omega arith)
words_of-at (b ∷ t) zero h e f = cond-true _ _ _ e
words_of-at (b ∷ t) (suc i) h e f =
    cond-false _ _ _ (f zero (omega arith)) ∙ ap (put_before b) (words_of-at t i (omega arith) e (λ k below. f (suc k) (omega arith)))

-- a line without a space is one word
pub words_of-none : (t : Text) → ((k : ℕ) → k < length t → nat_eq (get_or t k 0) space ≡ false) → words_of t ≡ t ∷ []
unfolding words_of
words_of-none [] f = refl
words_of-none (b ∷ t) f = cond-false _ _ _ (f zero (omega arith)) ∙ ap (put_before b) (words_of-none t (λ k below. f (suc k) (omega arith)))
