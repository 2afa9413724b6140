-- Places of a line at which no matched stretch ends, and the steps up to them.
use Rattle.{re_steps.proofs.Prelude.{◌≡◌, ℕ, zero, suc, ◌+◌, ◌<◌, ◌≤◌, Bool, true, false, IsTrue, ◌⊎◌, inl, inr, length, refl, sym, ◌∙◌, arith, ◌↔◌, Text, Expression, Holds, Matches, Search, Whole, StateSet, PartHolds, part_of, IsNowhere, StandsAt, EndsAt, NoneEndsBefore, false≢true}, re_auto.proofs.lemmas.{Chains.{not_at_begin, passes}, PositionsDecide.positions_decide}}

-- what holds of no place before `next`, and not there, holds of none up to there
pub none_more : (P : ℕ → Type 0) (place next : ℕ) → ((k : ℕ) → place ≤ k → k < next → ¬ P k) → ¬ P next → (k : ℕ) → place ≤ k → k < next + 1 → ¬ P k
none_more P place next none here k low high p =
    elim (before k high) [
      | inl early ↦ none k low early p
      | inr same ↦ here (rw same at p)
    ]
  where
    before : (k : ℕ) → k < next + 1 → (k < next) ⊎ (k ≡ next)
    before k lt = search arith

module _ (e : Expression) (line : Text) where
  -- none ends before the first place
  pub none_at_first : NoneEndsBefore e line 0
  unfolding NoneEndsBefore
  none_at_first k lt = absurd (omega arith)

  -- a matched stretch that ends on the line
  pub matched_at : (j : ℕ) → j ≤ length line → EndsAt e Search line j → Matches e line false
  matched_at j le ends = (ends.0, j, le, ends.2)

  -- where none ends before the line's end, the last place decides
  pub end_decides : (accepted : Bool) → NoneEndsBefore e line (length line) → (IsTrue accepted ↔ EndsAt e Search line (length line)) → IsTrue accepted ↔ Matches e line false
  unfolding NoneEndsBefore
  end_decides accepted none reported = (λ h. matched_at (length line) (omega arith) (reported.0 h), λ m. back m.0 m.1 m.2 m.3)
    where
      last : (j : ℕ) → j ≤ length line → (j ≡ length line) ⊎ (j < length line)
      last j le = search arith

      back : (i j : ℕ) → j ≤ length line → Holds line e i j → IsTrue accepted
      back i j le h = elim (last j le) [
        | inl same ↦ reported.1 (i, tt, rw same at h)
        | inr early ↦ absurd (none j early (i, tt, h))
      ]

  -- where a stretch has to begin at the first place, the last one decides on the whole line
  pub whole_decides : (accepted : Bool) → (IsTrue accepted ↔ EndsAt e Whole line (length line)) → IsTrue accepted ↔ Matches e line true
  whole_decides accepted reported = (λ h. first (reported.0 h), λ m. reported.1 (0, refl, m))
    where
      first : EndsAt e Whole line (length line) → Holds line e 0 (length line)
      first (zero, begins, h) = h
      first (suc i, begins, h) = absurd (false≢true (sym (not_at_begin (suc i) (omega arith)) ∙ begins))

  -- a set of stretches from the first place that is nowhere: the whole line is not matched
  pub nowhere_fails : (set : StateSet) (j : ℕ) → StandsAt e Whole line j set → IsNowhere set → j ≤ length line → Matches e line true → ⊥
  unfolding StandsAt
  nowhere_fails set j stands nowhere le m = chain ((positions_decide e 0 line 0 (length line)).0 m)
    where
      inside : 0 < j
      inside = positive j refl
        where
          positive : (k : ℕ) → j ≡ k → 0 < k
          positive zero same = absurd (false≢true (sym nowhere.0 ∙ stands.0 ∙ rw same refl))
          positive (suc k) same = omega arith

      chain : PartHolds (part_of e 0) line 0 (length line) → ⊥
      chain (inl (same, empty)) = omega (arith, inside)
      chain (inr (q, r, l)) =
          let (p, here) = passes (part_of e 0) line 0 j (length line) q inside le r in
          nowhere.1 p ((stands.1 p).1 (0, refl, here))
