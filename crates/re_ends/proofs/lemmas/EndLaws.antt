-- Greatest ends are what the chains say.
use Rattle.{re_ends.proofs.Prelude.{◌≡◌, ℕ, zero, suc, ◌+◌, ◌-◌, ◌<◌, ◌≤◌, inl, inr, ◌⊎◌, length, max, slice_index, refl, arith, cases_lt, ◌↔◌, Text, Expression, Part, is_begin, is_end, Reaches, PartHolds, part_of, Leads, LeadsPast, MatchesPast}, re_auto.proofs.lemmas.{Chains.reaches_bounds, PositionsDecide.positions_decide}}

module _ (part : Part) (line : Text) where
  -- a chain that has come to a position, and one that goes on with it, are one from its beginning
  pub from_first : (i k n q : ℕ) → Reaches part line i (suc k) q → Leads part line k n q →
      (f : ℕ) × part.first (is_begin i) f × Leads part line i (k - i + n) f
  from_first i k n q (t, inl (same, first)) leads =
      let far : k - i + n ≡ n = omega (arith, same) in
      (q, rw same first, rw far (rw same leads))
  from_first i (suc k) n q (t, inr (p, r, w)) leads =
      let low = (reaches_bounds part line i (suc k) p r).0 in
      let (f, first, whole) = from_first i k (suc n) p r (taken_at i k p r, (q, w, leads)) in
      let far : k - i + suc n ≡ suc k - i + n = omega (arith, low) in
      (f, first, rw far at whole)
    where
      taken_at : (i k p : ℕ) → Reaches part line i (suc k) p → (k < length line) × part.takes p (slice_index line k)
      taken_at i k p r = r.0
  from_first i zero n q (t, inr (p, r, w)) _ = absurd r

  -- a chain that has come to a position goes on to the end of one that goes on with it
  pub to_last : (i k n q : ℕ) → Reaches part line i (suc k) q → Leads part line k n q →
      (l : ℕ) × Reaches part line i (suc (k + n)) l × part.last (is_end line (suc (k + n))) l
  to_last i k zero q r leads =
      let far : k ≡ k + 0 = omega arith in
      (q, rw far at r, rw far at leads.1)
  to_last i k (suc n) q r (t, (s, w, leads)) =
      let (l, whole, last) = to_last i (suc k) n s (took k n s leads, inr (q, r, w)) leads in
      let far : suc k + n ≡ k + suc n = omega arith in
      (l, rw far at whole, rw far at last)
    where
      took : (k n s : ℕ) → Leads part line (suc k) n s → (suc k < length line) × part.takes s (slice_index line (suc k))
      took k zero s leads = leads.0
      took k (suc n) s leads = leads.0

-- the positions that a stretch can begin with say how far the matched stretches reach
pub ends_decide : (e : Expression) (n : ℕ) (line : Text) (i m : ℕ) → MatchesPast e line i m ↔ ((q : ℕ) × (part_of e n).first (is_begin i) q × LeadsPast (part_of e n) line i q m)
ends_decide e n line i m = (λ (j, past, lt, on, h). to j past lt ((positions_decide e n line i j).0 h), λ (q, first, (k, le, leads)). back q first k le leads)
  where
    to : (j : ℕ) → m < j → i < j → PartHolds (part_of e n) line i j → (q : ℕ) × (part_of e n).first (is_begin i) q × LeadsPast (part_of e n) line i q m
    to j past lt (inl (same, empty)) = absurd (omega (arith, same, lt))
    to zero past lt (inr (q, r, last)) = absurd r
    to (suc k) past lt (inr (q, r, last)) =
        let bounds = reaches_bounds (part_of e n) line i (suc k) q r in
        let (f, first, whole) = from_first (part_of e n) line i k 0 q r (r.0, last) in
        (f, first, (k - i + 0, omega (arith, past, bounds.0), whole))

    reached : (q k : ℕ) → (part_of e n).first (is_begin i) q → Leads (part_of e n) line i k q → Reaches (part_of e n) line i (suc i) q
    reached q zero first leads = (leads.0, inl (refl, first))
    reached q (suc k) first leads = (leads.0, inl (refl, first))

    back : (q : ℕ) → (part_of e n).first (is_begin i) q → (k : ℕ) → m ≤ i + k → Leads (part_of e n) line i k q → MatchesPast e line i m
    back q first k le leads =
        let (l, whole, last) = to_last (part_of e n) line i i k q (reached q k first leads) leads in
        let bounds = reaches_bounds (part_of e n) line i (suc (i + k)) l whole in
        (suc (i + k), omega (arith, le), bounds.0, bounds.1, (positions_decide e n line i (suc (i + k))).1 (inr (l, whole, last)))

-- the greater of two numbers is after m exactly if one of them is
pub max_past : (a b : ℕ) {r : ℕ} (m : ℕ) → r ≡ max a b → (m < r) ↔ ((m < a) ⊎ (m < b))
max_past a b m is = (
  (λ h. elim (cases_lt m a) [ inl lt ↦ inl lt | inr ge ↦ inr (omega (arith, h, is, ge)) ]),
  (λ h. elim h [ inl lt ↦ omega (arith, lt, is) | inr lt ↦ omega (arith, lt, is) ]),
)
