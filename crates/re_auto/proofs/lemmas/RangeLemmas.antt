-- Ranges of words that contain the members of rows.
use Rattle.re_auto.proofs.{Prelude.{◌≡◌, ℕ, ◌/◌, ◌%◌, ◌<◌, ◌≤◌, List, [], ◌∷◌, ◌++◌, zero, suc, length, get_or, ◌⊎◌, inl, inr, ◌↔◌, arith, cases_lt, bit_at-zero, same_Some, none-some, bit_or, Some, slice_get, bit_at, WordRange, Has, Covers}, lemmas.BitLemmas.{in_either, or_never}}

-- no number is in a word that is 0
none_in_zero : (xs : List ℕ) (q : ℕ) → get_or xs (q / 64) 0 ≡ 0 → Has xs q → ⊥
unfolding Has
none_in_zero xs q blank h =
    let none : bit_at (get_or xs (q / 64) 0) (q % 64) ≡ bit_at 0 (q % 64) = rw blank in
    omega (arith, bit_at-zero (q % 64))

-- where the words before k are 0, no member is in them; the same for those from k on
pub not_before : (xs : List ℕ) (k : ℕ) → ((j : ℕ) → j < k → get_or xs j 0 ≡ 0) → (q : ℕ) → Has xs q → k ≤ q / 64
not_before xs k zeros q h = grind (arith, none_in_zero xs q)

pub not_from : (xs : List ℕ) (k : ℕ) → ((j : ℕ) → k ≤ j → get_or xs j 0 ≡ 0) → (q : ℕ) → Has xs q → q / 64 < k
not_from xs k zeros q h = grind (arith, none_in_zero xs q)

-- what is added in the words of the range is all of the row
pub added_within : (old row new : List ℕ) (range : WordRange) → Covers range row →
    ((j : ℕ) → range.first ≤ j → j < range.past → get_or new j 0 ≡ bit_or (get_or old j 0) (get_or row j 0)) →
    ((j : ℕ) → j < range.first → get_or new j 0 ≡ get_or old j 0) → ((j : ℕ) → range.past ≤ j → get_or new j 0 ≡ get_or old j 0) →
    (e : ℕ) → Has new e ↔ (Has old e ⊎ Has row e)
unfolding Has
added_within old row new range covers each before from e =
    elim (cases_lt (e / 64) range.first) [
      | inl lt ↦ rw (before (e / 64) lt) (or_never (λ h. omega (arith, covers.members e h)))
      | inr low ↦ elim (cases_lt (e / 64) range.past) [
        | inl high ↦ rw (each (e / 64) low high) (in_either _ _ (e % 64))
        | inr ge ↦ rw (from (e / 64) ge) (or_never (λ h. omega (arith, covers.members e h)))
      ]
    ]

-- one more range at the end of the list, of which the same holds as of those before
pub one_more : (P : ℕ → WordRange → Type 0) (ranges : List WordRange) (more : WordRange) → ((k : ℕ) (range : WordRange) → slice_get ranges k ≡ Some range → P k range) → P (length ranges) more →
    (k : ℕ) (range : WordRange) → slice_get (ranges ++ more ∷ []) k ≡ Some range → P k range
one_more P [] more each last zero range is = rw (same_Some more range is) at last
one_more P [] more each last (suc k) range is = absurd (none-some range is)
one_more P (first ∷ ranges) more each last zero range is = each zero range is
one_more P (first ∷ ranges) more each last (suc k) range is = one_more (λ k. P (suc k)) _ _ (λ k. each (suc k)) last k _ is
