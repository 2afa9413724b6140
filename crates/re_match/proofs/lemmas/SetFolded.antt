-- Strings and lines as they are compared: what both cases of each letter have alike.
use Rattle.{re_match.proofs.Prelude.{◌≡◌, ◌↔◌, ℕ, zero, suc, inl, inr, Bool, true, false, List, [], ◌∷◌, map, slice_get, Some, refl, ap, ◌∙◌, option_map, Text, cat, alt, byte, sequence, Holds, folded, key, keys, literal_meaning, slice_get-map}, re_strings.proofs.lemmas.KeyLaws.{closed_byte, keys_plain}}

-- ---- where they hold

some_key : (f : ℕ → ℕ) (line : Text) (i d : ℕ) → slice_get (map f line) i ≡ Some d → (c : ℕ) × (slice_get line i ≡ Some c) × (f c ≡ d)
some_key f [] i d e = let no : ⊥ = cc in absurd no
some_key f (c ∷ line) zero d e = let same : f c ≡ d = cc in (c, refl, same)
some_key f (c ∷ line) (suc i) d e = some_key f line i d e

module _ (line : Text) where
  byte_keys : (b i j : ℕ) → Holds line (folded (byte b)) i j ↔ Holds (keys true line) (byte (key true b)) i j
  byte_keys b i j = (
    (λ h. (key true h.0, slice_get-map (key true) line i ∙ ap (option_map (key true)) h.1, (closed_byte b h.0).0 h.2, h.3)),
    (λ h.
        let (c, at, same) = some_key (key true) line i h.0 h.1 in
        (c, at, (closed_byte b c).1 (rw same h.2), h.3)),
  )

  cat_keys : (t : Text) (i j : ℕ) → Holds line (folded (cat (map byte t))) i j ↔ Holds (keys true line) (cat (map byte (keys true t))) i j
  cat_keys [] i j = (λ h. h, λ h. h)
  cat_keys (b ∷ t) i j = ((λ h. (h.0, (byte_keys b i h.0).0 h.1, (cat_keys t h.0 j).0 h.2)), (λ h. (h.0, (byte_keys b i h.0).1 h.1, (cat_keys t h.0 j).1 h.2)))

  folded_keys : (t : Text) (i j : ℕ) → Holds line (folded (sequence (map byte t))) i j ↔ Holds (keys true line) (sequence (map byte (keys true t))) i j
  folded_keys [] i j = (λ h. h, λ h. h)
  folded_keys (b ∷ []) i j = byte_keys b i j
  folded_keys (b ∷ c ∷ t) i j = cat_keys (b ∷ c ∷ t) i j

  -- a string holds where it does as it is compared
  pub string_keys : (fold : Bool) (t : Text) (i j : ℕ) → Holds line (literal_meaning fold t) i j ↔ Holds (keys fold line) (sequence (map byte (keys fold t))) i j
  string_keys true t i j = folded_keys t i j
  string_keys false t i j = rw (keys_plain line, keys_plain t) (λ h. h, λ h. h)

  -- and so does a choice of strings
  pub choice_keys : (fold : Bool) (texts : List Text) (i j : ℕ)
      → Holds line (alt (map (literal_meaning fold) texts)) i j ↔ Holds (keys fold line) (alt (map (λ text. sequence (map byte text)) (map (keys fold) texts))) i j
  choice_keys fold [] i j = (λ h. h, λ h. h)
  choice_keys fold (t ∷ texts) i j =
      let here = string_keys fold t i j in
      let rest = choice_keys fold texts i j in ((λ h. elim h [ inl x ↦ inl (here.0 x) | inr y ↦ inr (rest.0 y) ]), (λ h. elim h [ inl x ↦ inl (here.1 x) | inr y ↦ inr (rest.1 y) ]))
