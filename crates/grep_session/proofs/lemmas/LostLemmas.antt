-- Marks that are lost one by one.
use Rattle.grep_session.proofs.Prelude.{◌≡◌, ℕ, ◌+◌, ◌<◌, ◌≤◌, List, [], ◌∷◌, ◌++◌, length, map, take, drop, get_or, sym, ap, ◌∙◌, arith, append_assoc, append-nil, set, drop_more, take_more, map-append, length-map, length-take-le, get_or_at, set_at, take_all, drop_all}

module _ {A : Type 0} (f : A → A) (xs : List A) where
  -- the first of them mapped, and the others as they are
  abbrev pub mapped_to : ℕ → List A
  mapped_to i = map f (take i xs) ++ drop i xs

  mapped_more : (i : ℕ) (d : A) → i < length xs → set (mapped_to i) i (f (get_or (mapped_to i) i d)) ≡ mapped_to (i + 1)
  mapped_more i d h =
      let front = map f (take i xs) in
      let next = get_or xs i d in
      let rest = drop (i + 1) xs in
      let cut : mapped_to i ≡ front ++ next ∷ rest = rw (drop_more xs i d h) in
      let long : length front ≡ i = length-map (take i xs) f ∙ length-take-le i xs (omega arith) in
      let there : get_or (mapped_to i) i d ≡ next = cc (get_or_at front next rest d i long) in
      let more : map f (take (i + 1) xs) ≡ front ++ f next ∷ [] = cc (take_more xs i d h, map-append f (take i xs) (next ∷ [])) in
      (λ j. set (cut j) i (f (there j))) ∙ set_at front next rest (f next) i long ∙ sym (append_assoc front (f next ∷ []) rest) ∙ ap (λ l. l ++ rest) (sym more)

  pub mapped_next : (marks : List A) (i : ℕ) (d new : A) → marks ≡ mapped_to i → i < length xs → new ≡ f (get_or marks i d) → set marks i new ≡ mapped_to (i + 1)
  mapped_next marks i d new same less is = ap (λ y. set marks i y) is ∙ (λ j. set (same j) i (f (get_or (same j) i d))) ∙ mapped_more i d less

  pub mapped_all : (i : ℕ) → length xs ≤ i → mapped_to i ≡ map f xs
  mapped_all i h = (λ j. map f (take_all i xs h j) ++ drop_all i xs h j) ∙ append-nil (map f xs)
