-- Two parts in turn, and one of two.
use Rattle.re_auto.proofs.{Prelude.{ℕ, false, ◌⊎◌, inl, inr, refl, ◌∙◌, subst, arith, ⊤, Text, Part, is_end, Reaches, PartHolds, in_turn, either}, lemmas.{Numbered.IsNumbered, Chains.{not_at_begin, not_at_end, reaches_bounds, graft, widen}, JoinedChains.{Run, of_first, of_second, of_both, run}}}

module _ (f g : Part) (line : Text) where
  -- a chain of the first part that ends, and one of the second after it
  follow_on : (i k j p q : ℕ) → Reaches f line i k p → f.last (is_end line k) p → Reaches g line k j q → Reaches (in_turn f g) line i j q
  follow_on i k j p q r l s =
      let bounds = reaches_bounds g line k j q s in
      let start = reaches_bounds f line i k p r in
      graft g (in_turn f g) line i k (λ p q w. inr (inl w)) (λ q c. inr)
      (λ q first t. (t, inr (p, widen f (in_turn f g) line (λ b q. inl) (λ p q. inl) (λ q c. inl) i k p r, inr (inr (tt, rw (not_at_end line k (omega arith)) at l, rw (not_at_begin k (omega arith)) at first)))))
      j q s

  -- two parts that hold one after the other hold in turn
  pub joint : (i k j : ℕ) → PartHolds f line i k → PartHolds g line k j → PartHolds (in_turn f g) line i j
  joint i k j (inl (e, a)) (inl (d, b)) = inl (e ∙ d, (a, rw e b))
  joint i k j (inl (e, a)) (inr (q, s, l)) =
      let bounds = reaches_bounds g line k j q s in
      let skip = rw (not_at_end line i (omega arith)) at a in
      let same : Reaches g line i j q = rw e s in
      inr (q, graft g (in_turn f g) line i i (λ p q w. inr (inl w)) (λ q c. inr) (λ q first t. (t, inl (refl, inr (skip, first)))) j q same, inl l)
  joint i k j (inr (p, r, m)) (inl (e, b)) =
      let start = reaches_bounds f line i k p r in
      subst (λ j. PartHolds (in_turn f g) line i j) e (inr (p, widen f (in_turn f g) line (λ b q. inl) (λ p q. inl) (λ q c. inl) i k p r, inr (rw (not_at_begin k (omega arith)) at b, m)))
  joint i k j (inr (p, r, m)) (inr (q, s, l)) = inr (q, follow_on i k j p q r m s, inl l)

  -- where one of two parts holds, their choice holds
  pub chosen : (i j : ℕ) → PartHolds f line i j ⊎ PartHolds g line i j → PartHolds (either f g) line i j
  chosen i j (inl (inl (e, a))) = inl (e, inl a)
  chosen i j (inr (inl (e, a))) = inl (e, inr a)
  chosen i j (inl (inr (q, r, l))) = inr (q, widen f (either f g) line (λ b q. inl) (λ p q. inl) (λ q c. inl) i j q r, inl l)
  chosen i j (inr (inr (q, r, l))) = inr (q, widen g (either f g) line (λ b q w. inr (tt, w)) (λ p q w. inr (inl w)) (λ q c. inr) i j q r, inr l)

module _ (f g : Part) (from mid to : ℕ) (nf : IsNumbered f from mid) (ng : IsNumbered g mid to) (line : Text) where
  abbrev TurnRun : ℕ → ℕ → ℕ → Type 0
  TurnRun = Run f g (λ b. f.empty b false) ⊤ (λ b z. f.empty b z × g.empty b z) (λ z q. g.last z q ⊎ g.empty false z × f.last z q) from mid to nf ng line

  -- a run in turn that ends is cut where the second part begins
  cut_run : (i j q : ℕ) → TurnRun i j q → (g.last (is_end line j) q ⊎ g.empty false (is_end line j) × f.last (is_end line j) q) →
      (k : ℕ) × PartHolds f line i k × PartHolds g line k j
  cut_run i j q (of_first b r) (inl l) = absurd (omega (arith, ng.last _ q l))
  cut_run i j q (of_first b r) (inr l) = (j, inr (q, r, l.1), inl (refl, rw (not_at_begin j (omega (arith, reaches_bounds f line i j q r))) l.0))
  cut_run i j q (of_second b s r) (inl l) =
      let bounds = reaches_bounds g line i j q r in
      (i, inl (refl, rw (not_at_end line i (omega arith)) s), inr (q, r, l))
  cut_run i j q (of_second b s r) (inr l) = absurd (omega (arith, nf.last _ q l.1))
  cut_run i j q (of_both b x k p r l s) (inl m) =
      let bounds = reaches_bounds g line k j q s in
      (k, inr (p, r, rw (not_at_end line k (omega arith)) l), inr (q, s, m))
  cut_run i j q (of_both b x k p r l s) (inr m) = absurd (omega (arith, nf.last _ q m.1))

  -- where two parts hold in turn, the one holds and then the other
  pub cut : (i j : ℕ) → PartHolds (in_turn f g) line i j → (k : ℕ) × PartHolds f line i k × PartHolds g line k j
  cut i j (inl (e, h)) = (i, inl (refl, h.0), inl (e, h.1))
  cut i j (inr (q, r, l)) = cut_run i j q (run _ _ _ _ _ _ _ _ _ nf ng line i j q r) l

  abbrev EitherRun : ℕ → ℕ → ℕ → Type 0
  EitherRun = Run f g (λ b. ⊤) ⊥ (λ b z. f.empty b z ⊎ g.empty b z) (λ z q. f.last z q ⊎ g.last z q) from mid to nf ng line

  -- a run of a choice that ends is one of either part
  choose_run : (i j q : ℕ) → EitherRun i j q → (f.last (is_end line j) q ⊎ g.last (is_end line j) q) → PartHolds f line i j ⊎ PartHolds g line i j
  choose_run i j q (of_first b r) (inl l) = inl (inr (q, r, l))
  choose_run i j q (of_first b r) (inr l) = absurd (omega (arith, ng.last _ q l))
  choose_run i j q (of_second b s r) (inl l) = absurd (omega (arith, nf.last _ q l))
  choose_run i j q (of_second b s r) (inr l) = inr (inr (q, r, l))
  choose_run i j q (of_both b x k p r l s) m = absurd x

  -- where a choice holds, one of its parts holds
  pub choose : (i j : ℕ) → PartHolds (either f g) line i j → PartHolds f line i j ⊎ PartHolds g line i j
  choose i j (inl (e, inl a)) = inl (inl (e, a))
  choose i j (inl (e, inr a)) = inr (inl (e, a))
  choose i j (inr (q, r, l)) = choose_run i j q (run _ _ _ _ _ _ _ _ _ nf ng line i j q r) l
