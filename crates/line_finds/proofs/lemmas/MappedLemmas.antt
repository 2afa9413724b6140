-- A loop that replaces each element of a list by f of it.
use Rattle.line_finds.proofs.Prelude.{◌≡◌, ℕ, ◌+◌, ◌<◌, ◌≤◌, List, [], ◌∷◌, ◌++◌, length, map, take, drop, get_or, ◌∙◌, arith, append_assoc, append-nil, set, drop_more, take_more, map-append, length-map, length-take-le, get_or_at, set_at, take_all, drop_all}

module _ {A : Type 0} (f : A → A) (xs : List A) where
  -- the first of them mapped, and the others as they are
  abbrev pub mapped_to : ℕ → List A
  mapped_to i = map f (take i xs) ++ drop i xs

  mapped_more : (i : ℕ) (d : A) → i < length xs → set (mapped_to i) i (f (get_or (mapped_to i) i d)) ≡ mapped_to (i + 1)
  mapped_more i d h =
      let front = map f (take i xs) in
      let next = get_or xs i d in
      let rest = drop (i + 1) xs in
      let cut : mapped_to i ≡ front ++ next ∷ rest = rw (drop_more xs i d h) in
      let long : length front ≡ i = length-map (take i xs) f ∙ length-take-le i xs (omega arith) in
      let there : get_or (mapped_to i) i d ≡ next = cc (get_or_at front next rest d i long) in
      let more : map f (take (i + 1) xs) ≡ front ++ f next ∷ [] = cc (take_more xs i d h, map-append f (take i xs) (next ∷ [])) in
      cc (set_at front next rest (f next) i long, append_assoc front (f next ∷ []) rest)

  pub mapped_next : {ys : List A} (i : ℕ) {y : A} (d : A) → i < length xs → ys ≡ mapped_to i → y ≡ f (get_or ys i d) → set ys i y ≡ mapped_to (i + 1)
  mapped_next i d h is made = cc (mapped_more i d h)

  pub mapped_all : (i : ℕ) → length xs ≤ i → mapped_to i ≡ map f xs
  mapped_all i h = cc (take_all i xs h, drop_all i xs h, append-nil (map f xs))
