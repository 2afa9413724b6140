-- How many of some lines have a property.
use Rattle.grep_core.proofs.Prelude.{ℕ, ◌-◌, ◌≤◌, inl, inr, List, [], ◌∷◌, length, arith, Text, HoldsOfMany}

-- no more lines have a property than there are
pub many_within : (P : Text → Type 0) (lines : List Text) (n : ℕ) → HoldsOfMany P lines n → n ≤ length lines
many_within P [] n h = omega (arith, h)
many_within P (line ∷ lines) n (others, h, inl (holds, is)) = omega (arith, is, many_within P lines others h)
many_within P (line ∷ lines) n (others, h, inr (no_one, is)) = omega (arith, is, many_within P lines others h)

-- the others don't
pub many_others : (P : Text → Type 0) (lines : List Text) (n : ℕ) → HoldsOfMany P lines n → HoldsOfMany (λ line. P line → ⊥) lines (length lines - n)
many_others P [] n h = omega (arith, h)
many_others P (line ∷ lines) n (others, h, inl (holds, is)) =
    (length lines - others, many_others P lines others h, inr ((λ no. no holds), omega (arith, is)))
many_others P (line ∷ lines) n (others, h, inr (no_one, is)) =
    (length lines - others, many_others P lines others h, inl (no_one, omega (arith, is, many_within P lines others h)))
