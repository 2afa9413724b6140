-- Each line has a list of its parts.
use Rattle.{re_syntax.proofs.Prelude.{ℕ, zero, suc, ◌+◌, ◌≤◌, ◌⊎◌, inl, inr, Bool, List, [], ◌∷◌, length, arith, dec_le, ℕ_discrete, map_dec, Text, Expression, Holds, IsFound, IsPart, ArePartsFrom, AreParts}, re_trees.proofs.lemmas.{Decisions.{dec_both, dec_MatchBool, dec_any, dec_bounded, least_below, greatest_below}, HoldsDecided.dec_holds}}

module _ (expressions : List Expression) (line : Text) (whole : Bool) where
  -- whether a stretch is found is decided
  pub dec_IsFound : (from i j : ℕ) → Dec (IsFound expressions line whole from i j)
  dec_IsFound from i j =
      map_dec (λ h. record { begins = h.0; not_empty = h.1.0; on_line = h.1.1.0; is_whole = h.1.1.1.0; holds = h.1.1.1.1 })
      (λ f. (f.begins, (f.not_empty, (f.on_line, (f.is_whole, f.holds)))))
      (dec_both (dec_le from i) (dec_both (dec_le (suc i) j) (dec_both (dec_le j (length line))
      (dec_both (dec_MatchBool whole (dec_both (ℕ_discrete i 0) (ℕ_discrete j (length line))) (yes tt)) (dec_any (λ e. Holds line e i j) (λ e. dec_holds line e i j) expressions)))))

  -- the part from a place on, or nothing is found there
  pub IsPart-exists : (from : ℕ) → ((i j : ℕ) × IsPart expressions line whole from i j) ⊎ ((i j : ℕ) → IsFound expressions line whole from i j → ⊥)
  IsPart-exists from = elim (least_below begins_at dec_begins_at (length line)) [ inl first ↦ inl (part_at _ first.1 first.2) | inr none ↦ inr (λ i j f. none i (omega (arith, f.not_empty, f.on_line)) (j, f)) ]
    where
      begins_at : ℕ → Type 0
      begins_at i = (j : ℕ) × IsFound expressions line whole from i j

      dec_begins_at : (i : ℕ) → Dec (begins_at i)
      dec_begins_at i = dec_bounded (λ j. IsFound expressions line whole from i j) (dec_IsFound from i) (suc (length line)) (λ j f. omega (arith, f.on_line))

      part_at : (i : ℕ) → begins_at i → ((k : ℕ) → begins_at k → i ≤ k) → (i j : ℕ) × IsPart expressions line whole from i j
      part_at i found earliest =
          let longest = greatest_below (λ j. IsFound expressions line whole from i j) (dec_IsFound from i) (suc (length line)) (λ j f. omega (arith, f.on_line)) found in
          (i, longest.0, record { found = longest.1; earliest = (λ k l f. earliest k (l, f)); longest = longest.2 })

  -- the parts from a place on, by its distance from the line's end
  ArePartsFrom-exist : (left : ℕ) {from : ℕ} → length line ≤ from + left → (ps : List (ℕ × ℕ)) × ArePartsFrom expressions line whole from ps
  ArePartsFrom-exist zero near = ([], (λ i j f. absurd (omega (arith, f.begins, f.not_empty, f.on_line))))
  ArePartsFrom-exist (suc left) {from} near =
      elim (IsPart-exists from) [
        | inr none ↦ ([], none)
        | inl p ↦ (let f = p.2.found in let rest = ArePartsFrom-exist left (omega (arith, f.begins, f.not_empty)) in ((p.0, p.1) ∷ rest.0, (p.2, rest.1)))
      ]

-- each line has a list of its parts
pub AreParts-exist : (es : List Expression) (line : Text) (whole : Bool) → (ps : List (ℕ × ℕ)) × AreParts es line whole ps
AreParts-exist es line whole = ArePartsFrom-exist es line whole (length line) (omega arith)
