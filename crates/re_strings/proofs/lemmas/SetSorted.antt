-- Strings in order.
use Rattle.re_strings.proofs.Prelude.{◌≡◌, ℕ, zero, suc, ◌+◌, ◌-◌, ◌<◌, ◌≤◌, ◌⊎◌, inl, inr, false, List, [], ◌∷◌, ◌++◌, length, map, get_or, slice_get, refl, sym, ap, subst, ◌∙◌, arith, Contains, IsPermutation, ranks, slice_cmp, nat_cmp, is_lt, ordering_then, MatchOrdering, Less, Equal, Greater, Text, Begins, IsString, text_at, rank, AreAscending, HaveSame, false≢true, get_or-map, get_or_default, length-map, IsPermutation-map, IsPermutation-sym, Contains-permutation}

-- the first text comes no later than the second
abbrev Comes : Text → Text → Type 0
Comes [] t = Unit {0}
Comes (x ∷ s) [] = ⊥
Comes (x ∷ s) (y ∷ t) = (x < y) ⊎ ((x ≡ y) × Comes s t)

comes_self : (s : Text) → Comes s s
comes_self [] = tt
comes_self (x ∷ s) = inr (refl, comes_self s)

comes_chain : (s t u : Text) → Comes s t → Comes t u → Comes s u
comes_chain [] t u a b = tt
comes_chain (x ∷ s) [] u a b = absurd a
comes_chain (x ∷ s) (y ∷ t) [] a b = absurd b
comes_chain (x ∷ s) (y ∷ t) (z ∷ u) (inl a) (inl b) = inl (omega arith)
comes_chain (x ∷ s) (y ∷ t) (z ∷ u) (inl a) (inr b) = let e = b.0 in inl (omega arith)
comes_chain (x ∷ s) (y ∷ t) (z ∷ u) (inr a) (inl b) = let e = a.0 in inl (omega arith)
comes_chain (x ∷ s) (y ∷ t) (z ∷ u) (inr a) (inr b) = inr (a.0 ∙ b.0, comes_chain s t u a.1 b.1)

-- what a sort says of two neighbours
not_less : (s t : Text) → is_lt (slice_cmp nat_cmp t s) ≡ false → Comes s t
not_less [] t h = tt
not_less (x ∷ s) [] h = absurd (false≢true (sym h))
not_less (x ∷ s) (y ∷ t) h =
    let later = not_less s t in
    elim (nat_cmp y x) as (λ o. MatchOrdering o (y < x) (y ≡ x) (x < y) → is_lt (ordering_then o (slice_cmp nat_cmp t s)) ≡ false → (x < y) ⊎ ((x ≡ y) × Comes s t)) [
      | Less ↦ λ r e. absurd (false≢true (sym e))
      | Equal ↦ λ r e. inr (sym r, later e)
      | Greater ↦ λ r e. inl r
    ] (ranks y x) h

-- after the same front the first byte is no greater
after_front : (w r q : Text) → Comes (w ++ r) (w ++ q) → Comes r q
after_front [] r q c = c
after_front (x ∷ w) r q (inl lt) = absurd (omega arith)
after_front (x ∷ w) r q (inr same) = after_front w r q same.1

byte_at : (w r : Text) → slice_get (w ++ r) (length w) ≡ slice_get r 0
byte_at [] r = refl
byte_at (x ∷ w) r = byte_at w r

first_byte : (r q : Text) → Comes r q → rank (slice_get r 0) ≤ rank (slice_get q 0)
first_byte [] q c = omega arith
first_byte (x ∷ r) [] c = absurd c
first_byte (x ∷ r) (y ∷ q) (inl lt) = omega arith
first_byte (x ∷ r) (y ∷ q) (inr same) = omega arith

ranked : (w s t : Text) → Comes s t → Begins w s → Begins w t → rank (slice_get s (length w)) ≤ rank (slice_get t (length w))
ranked w s t c (r, a) (q, b) =
    let beyond = first_byte r q (after_front w r q (rw b at (rw a at c))) in
    let left : rank (slice_get s (length w)) ≡ rank (slice_get r 0) = rw (ap (λ x. slice_get x (length w)) a ∙ byte_at w r) in
    let right : rank (slice_get t (length w)) ≡ rank (slice_get q 0) = rw (ap (λ x. slice_get x (length w)) b ∙ byte_at w q) in
    omega arith

-- from neighbours to any two
chain : (texts : List Text) → ((k : ℕ) → k + 1 < length texts → Comes (text_at texts k) (text_at texts (k + 1))) → (i more : ℕ) → i + more < length texts → Comes (text_at texts i) (text_at texts (i + more))
chain texts near i zero lt = let same : i + zero ≡ i = omega arith in rw same (comes_self _)
chain texts near i (suc more) lt =
    let same : i + more + 1 ≡ i + suc more = omega arith in
    subst (λ n. Comes (text_at texts i) (text_at texts n)) same
    (comes_chain (text_at texts i) (text_at texts (i + more)) (text_at texts (i + more + 1)) (chain texts near i more (omega (arith, lt))) (near (i + more) (omega (arith, lt))))

module _ {X : Type 0} (v : X → Text) where
  neighbours : (xs : List X) → ((k : ℕ) (d : X) → 0 ≤ k → k + 1 < length xs → is_lt (slice_cmp nat_cmp (v (get_or xs (k + 1) d)) (v (get_or xs k d))) ≡ false)
      → (k : ℕ) → k + 1 < length xs → Comes (text_at (map v xs) k) (text_at (map v xs) (k + 1))
  neighbours [] sorted k lt = absurd (omega arith)
  neighbours (x ∷ xs) sorted k lt =
      let here = get_or-map v (x ∷ xs) k x [] (omega arith) in
      let next = get_or-map v (x ∷ xs) (k + 1) x [] lt in
      rw here (rw next
      (not_less _ _ (sorted k x (omega arith) lt)))

  -- a sorted list ascends
  pub sorted_ascends : (xs : List X) → ((k : ℕ) (d : X) → 0 ≤ k → k + 1 < length xs → is_lt (slice_cmp nat_cmp (v (get_or xs (k + 1) d)) (v (get_or xs k d))) ≡ false) → AreAscending (map v xs)
  sorted_ascends xs sorted w i j le lt a b =
      let place : i + (j - i) ≡ j = omega arith in
      let near = λ (k : ℕ) (h : k + 1 < length (map v xs)). neighbours xs sorted k (omega (arith, h, length-map xs v)) in
      ranked w (text_at (map v xs) i) (text_at (map v xs) j) (subst (λ n. Comes (text_at (map v xs) i) (text_at (map v xs) n)) place (chain (map v xs) near i (j - i) (omega (arith, place, lt)))) a b

  -- a permutation has the same strings
  pub same_strings : (xs ys : List X) (texts : List Text) → IsPermutation xs ys → map v xs ≡ texts → HaveSame (map v ys) texts
  same_strings xs ys texts p is =
      let moved = rw is at (IsPermutation-map v xs ys p) in
      λ w. (
        (λ s. string_of texts w (Contains-permutation (map v ys) texts w (IsPermutation-sym texts (map v ys) moved) (contained (map v ys) w s))),
        (λ s. string_of (map v ys) w (Contains-permutation texts (map v ys) w moved (contained texts w s))),
      )
    where
      contained : (l : List Text) (w : Text) → IsString l w → Contains l w
      contained l w (k, s, lt, at, e) = (k, lt, get_or_default l k w s lt ∙ at ∙ e)

      string_of : (l : List Text) (w : Text) → Contains l w → IsString l w
      string_of l w (k, lt, at) = (k, w, lt, at, refl)
