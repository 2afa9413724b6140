-- Sets of positions among those that have a number.
use Rattle.re_steps.proofs.Prelude.{◌≡◌, ℕ, suc, ◌+◌, Bool, true, false, ◌&&◌, inl, inr, List, [], ◌∷◌, ◌++◌, Some, length, nat_eq, get_or, slice_get, position, refl, sym, ap, ◌∙◌, subst, arith, if◌then◌else◌, list_any, position_or_len, same_text, StateSet, eq-value, IsSame, nat_list_eq_equiv, position-Some, fails_before_first, slice_get-get_or, slice_get_within, get_or_from_slice_get, beq, false≢true, lt-ltb, cases_lt}
use lib.Pointwise.{pointwise}

-- two sets are equal
abbrev pub equal : StateSet → StateSet → Bool
equal a b = eq-value.it a b

both_true : (p q : Bool) → (p && q) ≡ true → (p ≡ true) × (q ≡ true)
both_true true true reported = (refl, refl)
both_true true false reported = absurd (false≢true reported)
both_true false q reported = absurd (false≢true reported)

and_true : (p q : Bool) → p ≡ true → q ≡ true → (p && q) ≡ true
and_true p q a b = rw (a, b) refl

marks_same : (a b : Bool) → beq a b ≡ true → a ≡ b
marks_same true true reported = refl
marks_same true false reported = absurd (false≢true reported)
marks_same false true reported = absurd (false≢true reported)
marks_same false false reported = refl

same_marks : (a : Bool) → beq a a ≡ true
same_marks true = refl
same_marks false = refl

-- that is, they are the same
pub equal_same : (a b : StateSet) → equal a b ≡ true → IsSame a b
equal_same a b reported =
    let both = both_true (pointwise nat_eq a.words.items b.words.items) (beq a.at_begin b.at_begin) reported in
    (same_text a.words.items b.words.items (sym both.0), marks_same a.at_begin b.at_begin both.1)

pub same_equal : (a b : StateSet) → IsSame a b → equal a b ≡ true
same_equal a b is =
    and_true (pointwise nat_eq a.words.items b.words.items) (beq a.at_begin b.at_begin)
    (subst (λ words. pointwise nat_eq a.words.items words ≡ true) is.0 (nat_list_eq_equiv.refl a.words.items)) (subst (λ mark. beq a.at_begin mark ≡ true) is.1 (same_marks a.at_begin))

-- the set that is found among others
pub found_set : (sets : List StateSet) (set : StateSet) (n : ℕ) → position (equal set) sets ≡ Some n → (same : StateSet) × (slice_get sets n ≡ Some same) × IsSame same set
found_set sets set n is =
    let p = position-Some (equal set) sets n set is in
    let same = equal_same set (get_or sets n set) p.1 in
    (get_or sets n set, slice_get-get_or sets n set p.0, (sym same.0, sym same.1))

-- where it isn't found, none of them is the same
pub no_set : (sets : List StateSet) (set : StateSet) → ((n : ℕ) → position (equal set) sets ≡ Some n → ⊥) → (t : ℕ) (other : StateSet) → slice_get sets t ≡ Some other → IsSame other set → ⊥
no_set sets set none t other is same = elim (cases_lt (position_or_len (equal set) sets) (length sets)) [
  | inl inside ↦ none (position_or_len (equal set) sets) (rw (lt-ltb (position_or_len (equal set) sets) (length sets) inside) refl)
  | inr past ↦
      let fails = fails_before_first (equal set) sets t other (omega (arith, past, slice_get_within sets t other is)) in
      let passes = same_equal set other (sym same.0, sym same.1) in
      false≢true (sym fails ∙ ap (equal set) (get_or_from_slice_get sets t other other is) ∙ passes)
]

-- a test that none of the elements passes
none_any : {X : Type 0} (p : X → Bool) (xs : List X) → ((t : ℕ) (x : X) → slice_get xs t ≡ Some x → p x ≡ true → ⊥) → list_any p xs ≡ false
none_any p [] none = refl
none_any p (x ∷ xs) none = by (p x) refl (none_any p xs (λ t y at. none (suc t) y at))
  where
    by : (b : Bool) → p x ≡ b → list_any p xs ≡ false → list_any p (x ∷ xs) ≡ false
    by true is later = absurd (none 0 x refl is)
    by false is later = rw is later

none_first : {X : Type 0} (p : X → Bool) (xs : List X) → ((t : ℕ) (x : X) → slice_get xs t ≡ Some x → p x ≡ true → ⊥) → position_or_len p xs ≡ length xs
none_first p [] none = refl
none_first p (x ∷ xs) none = by (p x) refl (none_first p xs (λ t y at. none (suc t) y at))
  where
    by : (b : Bool) → p x ≡ b → position_or_len p xs ≡ length xs → position_or_len p (x ∷ xs) ≡ length (x ∷ xs)
    by true is later = absurd (none 0 x refl is)
    by false is later = let next : 1 + position_or_len p xs ≡ suc (length xs) = omega (arith, later) in rw is next

-- a new set is added after the others
module _ (sets : List StateSet) (set : StateSet) (fresh : (t : ℕ) (other : StateSet) → slice_get sets t ≡ Some other → IsSame other set → ⊥) where
  no_equal : (t : ℕ) (other : StateSet) → slice_get sets t ≡ Some other → equal set other ≡ true → ⊥
  no_equal t other is reported = let same = equal_same set other reported in fresh t other is (sym same.0, sym same.1)

  pub new_last : (if list_any (equal set) sets then sets else sets ++ set ∷ []) ≡ sets ++ set ∷ []
  new_last = rw (none_any (equal set) sets no_equal) refl

  pub new_number : position_or_len (equal set) sets ≡ length sets
  new_number = none_first (equal set) sets no_equal
