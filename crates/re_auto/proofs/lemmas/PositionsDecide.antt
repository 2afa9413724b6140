-- The positions of an expression say where it holds.
use Rattle.re_auto.proofs.{Prelude.{◌≡◌, ℕ, zero, suc, ◌+◌, ◌<◌, ◌≤◌, Bool, IsTrue, inl, inr, ◌↔◌, length, slice_get, slice_index, Some, refl, sym, ◌∙◌, subst, arith, eq-eqb, eqb-true, ⊤, Text, Expression, empty, one_of, none_of, begin, end, cat_none, cat_more, alt_none, alt_more, repeat, Holds, positions, is_begin, is_end, Reaches, PartHolds, without_positions, one_position, part_of, PositionsDecide, slice_get_within, slice_get-get_or, get_or_from_slice_get}, lemmas.{Chains.takes_each, Numbered.part_numbered, RepeatedByCopies.{repeated_give, repeated_need}, InTurnAndEither.{cut, joint, choose, chosen}}}

-- one byte that passes a test is read by one position that takes such bytes
byte_decides : (P : ℕ → Type 0) (n : ℕ) (line : Text) (i j : ℕ) →
    ((b : ℕ) × (slice_get line i ≡ Some b) × P b × (j ≡ i + 1)) ↔ PartHolds (one_position n P) line i j
byte_decides P n line i j = (give, need j)
  where
    give : ((b : ℕ) × (slice_get line i ≡ Some b) × P b × (j ≡ i + 1)) → PartHolds (one_position n P) line i j
    give (b, at, p, e) =
        let next : suc i ≡ j = omega arith in
        let taken : P (slice_index line i) = rw (get_or_from_slice_get line i b 0 at) p in
        inr (n, subst (λ j. Reaches (one_position n P) line i j n) next ((slice_get_within line i b at, (refl, taken)), inl (refl, refl)), refl)

    need : (j : ℕ) → PartHolds (one_position n P) line i j → (b : ℕ) × (slice_get line i ≡ Some b) × P b × (j ≡ i + 1)
    need j (inl (e, a)) = absurd a
    need zero (inr (q, r, l)) = absurd r
    need (suc j) (inr (q, ((lt, t), inl (e, f)), l)) = (slice_index line j, rw e (slice_get-get_or line j 0 lt), t.1, omega arith)
    need (suc j) (inr (q, ((lt, t), inr (p, r, w)), l)) = absurd w

-- a part without positions holds on the empty stretch alone
none_need : (E : Bool → Bool → Type 0) (line : Text) (i j : ℕ) → PartHolds (without_positions E) line i j → (i ≡ j) × E (is_begin i) (is_end line i)
none_need E line i j (inl h) = h
none_need E line i j (inr (q, r, l)) = absurd l

-- a part that is empty anywhere holds exactly on the empty stretches
empty_decides : (line : Text) (i j : ℕ) → (i ≡ j) ↔ PartHolds (without_positions (λ b z. ⊤)) line i j
empty_decides line i j = (λ e. inl (e, tt), λ h. (none_need (λ b z. ⊤) line i j h).0)

-- a part without positions that is empty only at place k holds only on the empty stretch there
anchor_need : (E : Bool → Bool → Type 0) (line : Text) (k i j : ℕ) → (E (is_begin i) (is_end line i) → i ≡ k) →
    PartHolds (without_positions E) line i j → (i ≡ k) × (j ≡ k)
anchor_need E line k i j at h = let (e, here) = none_need E line i j h in (at here, sym e ∙ at here)

module _ (line : Text) where
  -- the expression holds on a stretch exactly where its positions say so
  reported_too : (e : Expression) (n i j : ℕ) → Holds line e i j ↔ PartHolds (part_of e n) line i j
  reported_too empty n i j = empty_decides line i j
  reported_too (one_of s) n i j = byte_decides (λ c. IsTrue (s c)) n line i j
  reported_too (none_of s) n i j = byte_decides (λ c. ¬ IsTrue (s c)) n line i j
  reported_too begin n i j = (λ (a, b). inl (a ∙ sym b, eq-eqb i 0 a), anchor_need (λ b z. IsTrue b) line 0 i j (λ h. eqb-true i 0 h))
  reported_too end n i j = (λ (a, b). inl (a ∙ sym b, eq-eqb i (length line) a), anchor_need (λ b z. IsTrue z) line (length line) i j (λ h. eqb-true i (length line) h))
  reported_too cat_none n i j = empty_decides line i j
  reported_too (cat_more e rest) n i j = (
    λ (k, a, b). joint (part_of e n) (part_of rest (n + positions e)) line i k j ((reported_too e n i k).0 a) ((reported_too rest (n + positions e) k j).0 b),
    λ h. let (k, a, b) = cut (part_of e n) (part_of rest (n + positions e)) n (n + positions e) (n + positions e + positions rest)
        (part_numbered e n) (part_numbered rest (n + positions e)) line i j h in
        (k, (reported_too e n i k).1 a, (reported_too rest (n + positions e) k j).1 b),
  )
  reported_too alt_none n i j = (absurd, λ h. (none_need (λ b z. ⊥) line i j h).1)
  reported_too (alt_more e rest) n i j = (
    λ h. chosen (part_of e n) (part_of rest (n + positions e)) line i j (elim h [ inl a ↦ inl ((reported_too e n i j).0 a) | inr b ↦ inr ((reported_too rest (n + positions e) i j).0 b) ]),
    λ h. elim (choose _ _ n (n + positions e) (n + positions e + positions rest) (part_numbered e n) (part_numbered rest (n + positions e)) _ i j h) [
      | inl a ↦ inl ((reported_too e n i j).1 a)
      | inr b ↦ inr ((reported_too rest (n + positions e) i j).1 b)
    ],
  )
  reported_too (repeat e least most) n i j = (
    repeated_give (Holds line e) (part_of e) (positions e) line (reported_too e) (part_numbered e) least most n i j,
    repeated_need (Holds line e) (part_of e) (positions e) line (reported_too e) (part_numbered e) least most n i j,
  )

-- the law of positions
pub positions_decide : PositionsDecide
positions_decide e n line i j = reported_too line e n i j

-- some position takes each byte of a stretch on which the expression holds
pub each_byte_taken : (e : Expression) (line : Text) (i j k : ℕ) → i ≤ k → k < j → Holds line e i j → (q : ℕ) × (part_of e 0).takes q (slice_index line k)
each_byte_taken e line i j k low high h = elim ((positions_decide e 0 line i j).0 h) [ inl (same, _) ↦ absurd (omega arith) | inr (q, r, l) ↦ takes_each (part_of e 0) line i j k q low high r ]
