-- Pairs of lines and patterns: what becomes of the numbers of each line.
use Rattle.line_finds.proofs.Prelude.{◌≡◌, ℕ, All, Bool, ◌+◌, ◌-◌, ◌<◌, ◌≤◌, true, false, List, [], ◌∷◌, ◌++◌, inl, inr, length, map, take, nat_eq, nat_lt, nat_le, get_or, refl, arith, append_assoc, append-nil, filter, cases_Bool, cases_lt, nat_tests, take_more, map-append, take-map, All-nil, All-cons, All-head, All-tail, All-append, All-weaker, Match, numbers_at, AreBelow, is_other, lowered, pair_of, pairs_of, is_outside, moved_pair, moved_to}

pub eq_yes : (n p : ℕ) → n ≡ p → nat_eq n p ≡ true
eq_yes n p h = grind (arith, nat_tests, h)

pub eq_no : (n p : ℕ) → (n ≡ p → ⊥) → nat_eq n p ≡ false
eq_no n p h = grind (arith, nat_tests, h)

pub lt_yes : (p n : ℕ) → p < n → nat_lt p n ≡ true
lt_yes p n h = grind (arith, nat_tests)

pub lt_no : (p n : ℕ) → n ≤ p → nat_lt p n ≡ false
lt_no p n h = grind (arith, nat_tests)

pub le_yes : (p n : ℕ) → p ≤ n → nat_le p n ≡ true
le_yes p n h = grind (arith, nat_tests)

pub le_no : (p n : ℕ) → n < p → nat_le p n ≡ false
le_no p n h = grind (arith, nat_tests)

pub numbers_at-append : (k : ℕ) (xs ys : List (ℕ × ℕ)) → numbers_at k (xs ++ ys) ≡ numbers_at k xs ++ numbers_at k ys
numbers_at-append k [] ys = refl
numbers_at-append k (x ∷ xs) ys = grind (arith, numbers_at-append k xs ys)

-- ---- patterns go

module _ (f : ℕ → Bool) (g : ℕ → ℕ) where
  -- the pairs whose numbers stay, with other numbers
  abbrev pub renumbered : List Match → List Match
  renumbered pairs = map (λ pair. record { line = pair.line; number = g pair.number }) (filter (λ (pair : Match). f pair.number) pairs)

  pub left_numbers_are : (k : ℕ) (pairs : List Match) → numbers_at k (pairs_of (renumbered pairs)) ≡ map g (filter f (numbers_at k (pairs_of pairs)))
  left_numbers_are k [] = refl
  left_numbers_are k (pair ∷ pairs) = grind (arith, left_numbers_are k pairs)

  pub left_below_too : (size : ℕ) (pairs : List Match) → AreBelow size (pairs_of pairs) → AreBelow size (pairs_of (renumbered pairs))
  left_below_too size [] h = h
  left_below_too size (pair ∷ pairs) h =
      let more = left_below_too size pairs (All-tail (λ x. x.0 < size) (pair_of pair) (pairs_of pairs) h) in
      elim (cases_Bool (f pair.number)) [
        | inl own ↦ rw own (All-cons (λ x. x.0 < size) (pair.line, g pair.number) (pairs_of (renumbered pairs)) (All-head (λ x. x.0 < size) (pair_of pair) (pairs_of pairs) h) more)
        | inr own ↦ rw own more
      ]

-- where all are before those that go, they stay
pub all_left : (first count by : ℕ) (pairs : List Match) → All (λ (x : ℕ × ℕ). x.1 < first) (pairs_of pairs) → renumbered (is_other first count) (lowered first by) pairs ≡ pairs
all_left first count by [] h = refl
all_left first count by (pair ∷ pairs) h = let low = All-head (λ (x : ℕ × ℕ). x.1 < first) (pair_of pair) (pairs_of pairs) h in grind (arith, nat_tests, all_left first count by pairs (All-tail (λ (x : ℕ × ℕ). x.1 < first) (pair_of pair) (pairs_of pairs) h))

-- ---- lines are removed

module _ (from to : ℕ) (in_order : from ≤ to) where
  -- what is left of the pairs
  abbrev pub left : List Match → List (ℕ × ℕ)
  left pairs = pairs_of (map (moved_pair from to) (filter (is_outside from to) pairs))

  -- a pair of an earlier line stays, one of a removed line goes, and one of a later line moves

  pub left_before : (k : ℕ) → k < from → (pairs : List Match) → numbers_at k (left pairs) ≡ numbers_at k (pairs_of pairs)
  left_before k low [] = refl
  left_before k low (pair ∷ pairs) = grind (arith, nat_tests, left_before k low pairs)

  pub left_after : (k : ℕ) (pairs : List Match) → numbers_at (from + k) (left pairs) ≡ numbers_at (to + k) (pairs_of pairs)
  left_after k [] = refl
  left_after k (pair ∷ pairs) = grind (arith, nat_tests, left_after k pairs)

  pub left_below : (size : ℕ) → to ≤ size → (pairs : List Match) → AreBelow size (pairs_of pairs) → AreBelow (size - (to - from)) (left pairs)
  left_below size few [] h = All-nil (λ x. x.0 < size - (to - from))
  left_below size few (pair ∷ pairs) h =
      let less = All-head (λ x. x.0 < size) (pair_of pair) (pairs_of pairs) h in
      let more = left_below size few pairs (All-tail (λ x. x.0 < size) (pair_of pair) (pairs_of pairs) h) in
      elim (cases_lt pair.line from) [
        | inl g ↦ (let one : left (pair ∷ pairs) ≡ pair_of pair ∷ left pairs = rw (lt_yes pair.line from g, le_no to pair.line (omega arith)) in rw one (All-cons (λ x. x.0 < size - (to - from)) (pair_of pair) (left pairs) (omega arith) more))
        | inr g ↦ elim (cases_lt pair.line to) [
          | inl f ↦ rw (lt_no pair.line from g, le_no to pair.line f) more
          | inr f ↦ (let one : left (pair ∷ pairs) ≡ (pair.line - (to - from), pair.number) ∷ left pairs = rw (lt_no pair.line from g, le_yes to _ f, le_yes to _ f) in rw one (All-cons (λ x. x.0 < size - (to - from)) (pair.line - (to - from), pair.number) (left pairs) (omega arith) more))
        ]
      ]

-- ---- pairs of another list are added

pub none_at : (at k : ℕ) (pairs : List (ℕ × ℕ)) → at ≤ k → AreBelow at pairs → numbers_at k pairs ≡ []
none_at at k [] h b = refl
none_at at k (pair ∷ pairs) h b = let less = All-head (λ x. x.0 < at) pair pairs b in grind (arith, nat_tests, none_at at k pairs h (All-tail (λ x. x.0 < at) pair pairs b))

module _ (at from to : ℕ) where
  pub moved_to-append : (xs ys : List (ℕ × ℕ)) → moved_to at from to (xs ++ ys) ≡ moved_to at from to xs ++ moved_to at from to ys
  moved_to-append [] ys = refl
  moved_to-append (x ∷ xs) ys = grind (arith, moved_to-append xs ys)

  moved_old : (k : ℕ) → k < at → (pairs : List (ℕ × ℕ)) → numbers_at k (moved_to at from to pairs) ≡ []
  moved_old k low [] = refl
  moved_old k low (pair ∷ pairs) = grind (arith, nat_tests, moved_old k low pairs)

  moved_new : (k : ℕ) → from ≤ to → k < to - from → (pairs : List (ℕ × ℕ)) → numbers_at (at + k) (moved_to at from to pairs) ≡ numbers_at (from + k) pairs
  moved_new k in_order low [] = refl
  moved_new k in_order low (pair ∷ pairs) = grind (arith, nat_tests, moved_new k in_order low pairs)

  moved_below : from ≤ to → (pairs : List (ℕ × ℕ)) → AreBelow (at + (to - from)) (moved_to at from to pairs)
  moved_below in_order [] = All-nil (λ x. x.0 < at + (to - from))
  moved_below in_order (pair ∷ pairs) =
      let more = moved_below in_order pairs in
      elim (cases_lt pair.0 from) [
        | inl h ↦ rw (lt_yes pair.0 from h) more
        | inr h ↦ elim (cases_lt pair.0 to) [
          | inl g ↦ rw (lt_no pair.0 from h, le_no to pair.0 g) (All-cons (λ x. x.0 < at + (to - from)) (at + (pair.0 - from), pair.1) (moved_to at from to pairs) (omega arith) more)
          | inr g ↦ rw (lt_no pair.0 from h, le_yes to _ g) more
        ]
      ]

  module _ (old pairs : List (ℕ × ℕ)) where
    pub added_old : (k : ℕ) → k < at → numbers_at k (old ++ moved_to at from to pairs) ≡ numbers_at k old
    added_old k low = cc (numbers_at-append k old (moved_to at from to pairs), moved_old k low pairs, append-nil (numbers_at k old))

    pub added_new : AreBelow at old → from ≤ to → (k : ℕ) → k < to - from → numbers_at (at + k) (old ++ moved_to at from to pairs) ≡ numbers_at (from + k) pairs
    added_new below in_order k low = cc (numbers_at-append (at + k) old (moved_to at from to pairs), none_at at (at + k) old (omega arith) below, moved_new k in_order low pairs)

    pub added_below : AreBelow at old → from ≤ to → AreBelow (at + (to - from)) (old ++ moved_to at from to pairs)
    added_below below in_order = All-append (λ x. x.0 < at + (to - from)) old (moved_to at from to pairs) (All-weaker (λ x. x.0 < at) (λ x. x.0 < at + (to - from)) (λ x h. omega arith) old below) (moved_below in_order pairs)

-- ---- goals of functions

-- one more pair is added where its line is among those that are wanted
pub added_one : (at from to : ℕ) (old new next : List (ℕ × ℕ)) (items : List Match) (i : ℕ) → i < length items → new ≡ old ++ moved_to at from to (pairs_of (take i items)) → next ≡ new ++ moved_to at from to (pair_of (get_or items i (record { line = 0; number = 0 })) ∷ []) → next ≡ old ++ moved_to at from to (pairs_of (take (i + 1) items))
added_one at from to old new next items i low so_far step =
    let none : Match = record { line = 0; number = 0 } in
    let one = pair_of (get_or items i none) ∷ [] in
    cc (take_more items i none low, map-append pair_of (take i items) (get_or items i none ∷ []), append_assoc old (moved_to at from to (pairs_of (take i items))) (moved_to at from to one), moved_to-append at from to (pairs_of (take i items)) one)

-- the pairs are what they were where those that were added are cut off
pub cut_back : {pairs : List Match} (new : List Match) {old view : List (ℕ × ℕ)} (n : ℕ) → pairs ≡ take n new → pairs_of new ≡ view → n ≡ length old → take (length old) view ≡ old → pairs_of pairs ≡ old
cut_back new n cut is many same = cc (take-map pair_of n new)
