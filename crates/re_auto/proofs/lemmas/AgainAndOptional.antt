-- A part again and again, and a part that may be left out.
use Rattle.re_auto.proofs.{Prelude.{◌≡◌, ℕ, zero, suc, ◌⊎◌, inl, inr, refl, arith, Text, Turns, Part, Reaches, PartHolds, again, optional}, lemmas.Chains.{not_at_begin, not_at_end, reaches_bounds, graft, widen}}

-- one turn more after some turns
last_added : (P : ℕ → ℕ → Type 0) (turns i k j : ℕ) → Turns P turns i k → P k j → Turns P (suc turns) i j
last_added P zero i k j e p = (j, rw e p, refl)
last_added P (suc turns) i k j (l, first, before) p = (l, first, last_added P turns l k j before p)

module _ (f : Part) (line : Text) where
  -- some turns from i to k, and then a chain of the part from k
  LastTurn : ℕ → ℕ → ℕ → Type 0
  LastTurn i j q = (turns : ℕ) × (k : ℕ) × Turns (PartHolds f line) turns i k × Reaches f line k j q

  -- a chain of the part again and again is in its last turn
  last_turn : (i j q : ℕ) → Reaches (again f) line i j q → LastTurn i j q
  unfolding LastTurn
  last_turn i zero q r = absurd r
  last_turn i (suc j) q (t, inl (e, first)) = (0, i, refl, (t, inl (e, first)))
  last_turn i (suc j) q (t, inr (p, r, inl w)) =
      let (turns, k, before, s) = last_turn i j p r in
      (turns, k, before, (t, inr (p, s, w)))
  last_turn i (suc j) q (t, inr (p, r, inr w)) =
      let (turns, k, before, s) = last_turn i j p r in
      let bounds = reaches_bounds f line k j p s in (
        suc turns,
        j,
        last_added (PartHolds f line) _ i k j before (inr (p, s, rw (not_at_end line j (t.0)) w.0)),
        (t, inl (refl, rw (not_at_begin j (omega arith)) w.1)),
      )

  -- where a part holds again and again, there is at least one turn of it
  pub turns_of : (i j : ℕ) → PartHolds (again f) line i j → (turns : ℕ) × Turns (PartHolds f line) (suc turns) i j
  unfolding LastTurn
  turns_of i j (inl (e, a)) = (0, (j, inl (e, a), refl))
  turns_of i j (inr (q, r, l)) =
      let (turns, k, before, s) = last_turn i j q r in
      (turns, last_added (PartHolds f line) _ i k j before (inr (q, s, l)))

  -- a part that holds once holds again and again
  once : (i j : ℕ) → PartHolds f line i j → PartHolds (again f) line i j
  once i j (inl h) = inl h
  once i j (inr (q, s, l)) = inr (q, widen f (again f) line (λ b q w. w) (λ p q. inl) (λ q c t. t) i j q s, l)

  -- one turn, and then the part again and again
  one_more : (i k j : ℕ) → PartHolds f line i k → PartHolds (again f) line k j → PartHolds (again f) line i j
  one_more i k j (inl (e, a)) rest = rw e rest
  one_more i k j (inr h) (inl (e, b)) = rw e at (once i k (inr h))
  one_more i k j (inr (p, r, m)) (inr (q, s, l)) =
      let bounds = reaches_bounds (again f) line k j q s in
      let start = reaches_bounds f line i k p r in
      let before = widen f (again f) line (λ b q w. w) (λ p q. inl) (λ q c t. t) i k p r in
      inr (
        q,
        graft (again f) (again f) line i k (λ p q w. w) (λ q c t. t)
            (λ q first t. (t, inr (p, before, inr (rw (not_at_end line k (omega arith)) at m, rw (not_at_begin k (omega arith)) at first)))) j q s,
        l,
      )

  -- where there is at least one turn of a part, it holds again and again
  pub of_turns : (turns i j : ℕ) → Turns (PartHolds f line) (suc turns) i j → PartHolds (again f) line i j
  of_turns zero i j (k, h, e) = rw e at (once i k h)
  of_turns (suc turns) i j (k, h, rest) = one_more i k j h (of_turns turns k j rest)

  -- a part that may be left out holds on the empty stretch, and where the part does
  pub optional_of : (i j : ℕ) → (i ≡ j) ⊎ PartHolds f line i j → PartHolds (optional f) line i j
  optional_of i j (inl e) = inl (e, tt)
  optional_of i j (inr (inl h)) = inl (h.0, tt)
  optional_of i j (inr (inr (q, r, l))) = inr (q, widen f (optional f) line (λ b q w. w) (λ p q w. w) (λ q c t. t) i j q r, l)

  -- a part that may be left out holds nowhere else
  pub of_optional : (i j : ℕ) → PartHolds (optional f) line i j → (i ≡ j) ⊎ PartHolds f line i j
  of_optional i j (inl h) = inl h.0
  of_optional i j (inr (q, r, l)) = inr (inr (q, widen (optional f) f line (λ b q w. w) (λ p q w. w) (λ q c t. t) i j q r, l))
