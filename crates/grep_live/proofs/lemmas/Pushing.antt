-- Bytes that are written for each element of a list.
use Rattle.{grep_live.proofs.Prelude.{◌≡◌, ℕ, ◌+◌, ◌<◌, ◌≤◌, List, [], ◌∷◌, ◌++◌, length, take, drop, get_or, Option, sym, ap, ◌∙◌, append-nil, append_assoc, take-append-drop, flat_map, Text, newline, output_line, GoesOut, StopsWithin, flat_map-append, take_more, take_all}, grep_core.proofs.lemmas.RowLemmas.{goes_nowhere, goes_on, stops_early, stops_later}}

module _ {W : Type 0} (contents : W → Option Text) (failures : W → ℕ) {A : Type 0} (f : A → Text) (xs : List A) where
  -- what is written for the first of them
  abbrev pub EachUpTo : W → W → ℕ → Type 0
  EachUpTo old now i = GoesOut contents failures old now (flat_map f (take i xs))

  pub each_none : (a : W) → EachUpTo a a 0
  each_none a = goes_nowhere contents failures a

  next_bytes : (i : ℕ) (d : A) → i < length xs → flat_map f (take (i + 1) xs) ≡ flat_map f (take i xs) ++ f (get_or xs i d)
  next_bytes i d h =
      ap (flat_map f) (take_more xs i d h) ∙ flat_map-append f (take i xs) (get_or xs i d ∷ []) ∙ ap (λ l. flat_map f (take i xs) ++ l) (append-nil (f (get_or xs i d)))

  pub each_on : (a b c : W) (i : ℕ) (d : A) → i < length xs → EachUpTo a b i → GoesOut contents failures b c (f (get_or xs i d)) → EachUpTo a c (i + 1)
  each_on a b c i d h went goes =
      rw (next_bytes i d h) (goes_on contents failures a b c (flat_map f (take i xs)) (f (get_or xs i d)) went goes)

  pub each_stops : (a b c : W) (i : ℕ) (d : A) → i < length xs → EachUpTo a b i → StopsWithin contents failures b c (f (get_or xs i d)) → StopsWithin contents failures a c (flat_map f xs)
  each_stops a b c i d h went stops =
      let cut : flat_map f xs ≡ flat_map f (take (i + 1) xs) ++ flat_map f (drop (i + 1) xs) = cc (take-append-drop (i + 1) xs, flat_map-append f (take (i + 1) xs) (drop (i + 1) xs)) in
      let first : StopsWithin contents failures a c (flat_map f (take (i + 1) xs)) =
      rw (next_bytes i d h) (stops_later contents failures a b c (flat_map f (take i xs)) (f (get_or xs i d)) went stops) in
      rw cut (stops_early contents failures a c (flat_map f (take (i + 1) xs)) (flat_map f (drop (i + 1) xs)) first)

  pub each_all : (a b : W) (i : ℕ) → length xs ≤ i → EachUpTo a b i → GoesOut contents failures a b (flat_map f xs)
  each_all a b i h went = rw (take_all i xs h) at went

-- the parts of a row, in another grouping
pub row_grouped : (margin word numbers parts end : Text) →
    (margin ++ (word ++ numbers)) ++ (32 ∷ (parts ++ (end ++ newline ∷ []))) ≡ output_line margin (word ++ (numbers ++ (32 ∷ (parts ++ end))))
row_grouped margin word numbers parts end =
    let nl = newline ∷ [] in
    let inner = sym (append_assoc parts end nl) in
    let body = 32 ∷ (parts ++ end) in
    append_assoc margin (word ++ numbers) (32 ∷ (parts ++ (end ++ nl)))
    ∙ ap (λ l. margin ++ ((word ++ numbers) ++ (32 ∷ l))) inner
    ∙ ap (λ l. margin ++ l) (cc (append_assoc (word ++ numbers) body nl, append_assoc word numbers body))
    ∙ sym (append_assoc margin (word ++ (numbers ++ body)) nl)
