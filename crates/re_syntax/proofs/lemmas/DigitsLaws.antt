-- Decimal digits: how many come first, and their value.
use Rattle.re_syntax.proofs.Prelude.{◌≡◌, ℕ, zero, suc, ◌+◌, ◌-◌, ◌*◌, ◌<◌, ◌≤◌, min, true, false, ◌||◌, ◌⊎◌, inl, inr, nat_le, nat_lt, [], ◌∷◌, ◌++◌, length, take, get_or, IsTrue, refl, arith, and_parts, and_from, or_cases, or_parts, leb-true, le-leb, ltb-true, ltb-false, take_more, Digit, Text, in_class, value_after, capped, HasNoDigit, IsDigitCount}

-- a digit is not below `0`
pub digit_low : (b : ℕ) → IsTrue (in_class Digit b) → 48 ≤ b
digit_low b h = leb-true 48 b (and_parts (nat_le 48 b) (nat_le b 57) h).0

-- a digit is not above `9`
pub digit_high : (b : ℕ) → IsTrue (in_class Digit b) → b ≤ 57
digit_high b h = leb-true b 57 (and_parts (nat_le 48 b) (nat_le b 57) h).1

-- any byte from `0` to `9` is a digit
pub is_digit : (b : ℕ) → 48 ≤ b → b ≤ 57 → IsTrue (in_class Digit b)
is_digit b h k = and_from _ _ (le-leb 48 b h) (le-leb b 57 k)

-- a byte that fails the reader's test is a digit
pub digit_from : (b : ℕ) → (nat_lt b 48 || nat_lt 57 b) ≡ false → IsTrue (in_class Digit b)
digit_from b h = and_from _ _ (le-leb 48 b (ltb-false b 48 (or_parts _ _ h).0)) (le-leb b 57 (ltb-false 57 b (or_parts _ _ h).1))

-- a byte that passes it is no digit
pub not_digit : (b : ℕ) → (nat_lt b 48 || nat_lt 57 b) ≡ true → IsTrue (in_class Digit b) → ⊥
not_digit b h k = go (or_cases _ _ h)
  where
    go : (nat_lt b 48 ≡ true) ⊎ (nat_lt 57 b ≡ true) → ⊥
    go (inl e) = let low = ltb-true b 48 e in let other = digit_low b k in absurd (omega arith)
    go (inr e) = let high = ltb-true 57 b e in let other = digit_high b k in absurd (omega arith)

-- one digit more at the end
pub value_after-snoc : (n : ℕ) (t : Text) (b : ℕ) → value_after n (t ++ b ∷ []) ≡ 10 * value_after n t + (b - 48)
value_after-snoc n [] b = refl
value_after-snoc n (c ∷ t) b = value_after-snoc (10 * n + (c - 48)) t b

-- one digit more of a text
pub value_after-take : (n : ℕ) (t : Text) (i : ℕ) → i < length t → value_after n (take (i + 1) t) ≡ 10 * value_after n (take i t) + (get_or t i 0 - 48)
value_after-take n t i h = cc (take_more t i 0 h, value_after-snoc n _ _)

-- the capped value is enough to go on with
pub capped-step : {v : ℕ} (w d : ℕ) → v ≡ capped w → min (10 * v + d) 256 ≡ capped (10 * w + d)
capped-step w d h = omega arith

-- where the first byte is no digit, no digit comes first
pub no_digit : (b : ℕ) (t : Text) → (IsTrue (in_class Digit b) → ⊥) → HasNoDigit (b ∷ t)
no_digit b t h c u e k = h (let same : b ≡ c = cc in rw same k)

-- the digits end at the first byte that is none
pub counted : (t : Text) (i : ℕ) → i < length t → ((k : ℕ) → k < i → IsTrue (in_class Digit (get_or t k 0))) → (IsTrue (in_class Digit (get_or t i 0)) → ⊥) → IsDigitCount t i
counted [] i h f g = absurd (omega arith)
counted (b ∷ t) zero h f g = record { within = omega arith; digits = refl; stops = no_digit b t g }
counted (b ∷ t) (suc i) h f g =
    let rest = counted t i (omega arith) (λ k below. f (suc k) (omega arith)) g in
    record { within = omega (arith, rest.within); digits = and_from (in_class Digit b) _ (f zero (omega arith)) rest.digits; stops = rest.stops }

-- where each byte is a digit all are counted
pub counted-all : (t : Text) → ((k : ℕ) → k < length t → IsTrue (in_class Digit (get_or t k 0))) → IsDigitCount t (length t)
counted-all [] f = record { within = omega arith; digits = refl; stops = λ b u e. cc }
counted-all (b ∷ t) f =
    let rest = counted-all t (λ k below. f (suc k) (omega arith)) in
    record { within = omega (arith, rest.within); digits = and_from (in_class Digit b) _ (f zero (omega arith)) rest.digits; stops = rest.stops }
