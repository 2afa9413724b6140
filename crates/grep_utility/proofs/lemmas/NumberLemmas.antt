-- The number that a word is, and the number of lines, one digit after the other.
use Rattle.{grep_utility.{proofs.Prelude.{◌≡◌, ℕ, ◌+◌, ◌-◌, ◌*◌, ◌^◌, ◌<◌, ◌≤◌, min, [], ◌∷◌, length, take, get_or, IsTrue, Option, Some, None, refl, sym, ap, ◌∙◌, arith, nat_lt, ◌&&◌, Bool, true, false, if◌then◌else◌, and_from, cond-true, cond-false, ltb-true, ltb-false, le-ltb, lt-ltb, list_all, Digit, Text, in_class, value, most_around, number_of, digits_of}, specs.Words.lines_of}, std.{specs.Prelude.{option_and_then, option_map}, proofs.lemmas.List.Folds.{list_all_at, list_all_more}}, re_syntax.proofs.lemmas.DigitsLaws.value_after-take}

-- these bytes are digits, of this value
abbrev pub Reads : Text → ℕ → Type 0
Reads t v = IsTrue (list_all (in_class Digit) t) × (v ≡ min (value t) (2 ^ 64))

-- one digit more
pub digits_next : (t : Text) (i v w : ℕ) → i < length t → Reads (take i t) v → IsTrue (in_class Digit (get_or t i 0)) → w ≡ min (v * 10 + (get_or t i 0 - 48)) (2 ^ 64) → Reads (take (i + 1) t) w
digits_next t i v w h (all, is) here sum = (list_all_more (in_class Digit) t i 0 h ∙ and_from _ _ all here, omega (arith, value_after-take 0 t i h))

-- all bytes are digits
pub digits_some : (t : Text) (v : ℕ) → 0 < length t → Reads t v → digits_of t ≡ Some v
digits_some [] v h r = absurd (omega arith)
digits_some (b ∷ t) v h (all, is) = cond-true _ _ _ all ∙ ap Some (sym is)

-- some byte is none
pub digits_none : (t : Text) (i : ℕ) → i < length t → in_class Digit (get_or t i 0) ≡ false → None ≡ digits_of t
digits_none [] i h e = refl
digits_none (b ∷ t) i h e = sym (cond-false _ _ _ (list_all_at (in_class Digit) (b ∷ t) i 0 h e))

-- a number is less than 2 ^ 64
abbrev less : ℕ → Option ℕ
less n = if nat_lt n (2 ^ 64) then Some n else None

number_is : (t : Text) → option_and_then less (digits_of t) ≡ number_of t
number_is [] = refl
number_is (b ∷ t) = go (list_all (in_class Digit) (b ∷ t)) (nat_lt (value (b ∷ t)) (2 ^ 64)) refl
  where
    go : (all low : Bool) → nat_lt (value (b ∷ t)) (2 ^ 64) ≡ low
        → option_and_then less (if all then Some (min (value (b ∷ t)) (2 ^ 64)) else None) ≡ (if all && nat_lt (value (b ∷ t)) (2 ^ 64) then Some (value (b ∷ t)) else None)
    go false low e = refl
    go true true e = let same : min (value (b ∷ t)) (2 ^ 64) ≡ value (b ∷ t) = omega (arith, ltb-true _ _ e) in rw (same, e) refl
    go true false e = let same : min (value (b ∷ t)) (2 ^ 64) ≡ 2 ^ 64 = omega (arith, ltb-false _ _ e) in rw (same, e) refl

pub number_none : (t : Text) → digits_of t ≡ None → None ≡ number_of t
number_none t is = cc (number_is t)

pub number_large : (t : Text) (v : ℕ) → digits_of t ≡ Some v → 2 ^ 64 ≤ v → None ≡ number_of t
number_large t v is many = sym (cond-false _ _ _ (le-ltb v (2 ^ 64) many)) ∙ ap (option_and_then less) (sym is) ∙ number_is t

pub number_some : (t : Text) (v : ℕ) → digits_of t ≡ Some v → v < 2 ^ 64 → Some v ≡ number_of t
number_some t v is few = sym (cond-true _ _ _ (lt-ltb v (2 ^ 64) few)) ∙ ap (option_and_then less) (sym is) ∙ number_is t

-- a number of lines is at most the greatest
lines_are : (t : Text) → option_map (λ n. min n most_around) (digits_of t) ≡ lines_of t
lines_are [] = refl
lines_are (b ∷ t) = go (list_all (in_class Digit) (b ∷ t))
  where
    go : (all : Bool) → option_map (λ n. min n most_around) (if all then Some (min (value (b ∷ t)) (2 ^ 64)) else None) ≡ (if all then Some (min (value (b ∷ t)) most_around) else None)
    go false = refl
    go true = ap Some (omega arith)

pub lines_none : (t : Text) → digits_of t ≡ None → None ≡ lines_of t
lines_none t is = cc (lines_are t)

pub lines_some : (t : Text) (v w : ℕ) → digits_of t ≡ Some v → w ≡ min v most_around → Some w ≡ lines_of t
lines_some t v w is same = cc (lines_are t)
