-- A part repeated by copies.
use Rattle.re_auto.proofs.{Prelude.{◌≡◌, ℕ, zero, suc, ◌+◌, ◌-◌, ◌*◌, ◌≤◌, Bool, true, false, nat_le, inl, inr, ◌↔◌, Option, Some, None, refl, arith, leb-true, le-leb, Text, Turns, IsWithin, Part, PartHolds, in_turn, again, copies_before, up_to, only_if, repeated}, lemmas.{Numbered.{IsNumbered, copies_before_numbered, up_to_numbered, again_numbered}, InTurnAndEither.{cut, joint}, AgainAndOptional.{turns_of, of_turns, optional_of, of_optional}}}

-- turns of one relation are turns of a wider one
turns_map : (R S : ℕ → ℕ → Type 0) → ((i j : ℕ) → R i j → S i j) → (turns i j : ℕ) → Turns R turns i j → Turns S turns i j
turns_map R S h zero i j t = t
turns_map R S h (suc turns) i j (k, r, rest) = (k, h i k r, turns_map R S h turns k j rest)

-- some turns and then some more are turns
turns_add : (R : ℕ → ℕ → Type 0) (a b i k j : ℕ) → Turns R a i k → Turns R b k j → Turns R (a + b) i j
turns_add R zero b i k j e y = let same : 0 + b ≡ b = omega arith in rw (same, e) y
turns_add R (suc a) b i k j (l, r, x) y = let next : suc a + b ≡ suc (a + b) = omega arith in rw next (l, r, turns_add R a b l k j x y)

-- turns are cut after some of them
turns_cut : (R : ℕ → ℕ → Type 0) (a b i j : ℕ) → Turns R (a + b) i j → (k : ℕ) × Turns R a i k × Turns R b k j
turns_cut R zero b i j x = let same : 0 + b ≡ b = omega arith in (i, refl, rw same at x)
turns_cut R (suc a) b i j x =
    let next : suc a + b ≡ suc (a + b) = omega arith in
    let (l, r, y) : Turns R (suc (a + b)) i j = rw next at x in
    let (k, u, v) = turns_cut R a b l j y in
    (k, (l, r, u), v)

module _ (R : ℕ → ℕ → Type 0) (part : ℕ → Part) (size : ℕ) (line : Text) (reported_too : (n i j : ℕ) → R i j ↔ PartHolds (part n) line i j) (numbered : (n : ℕ) → IsNumbered (part n) n (n + size)) where
  module _ (rest : ℕ → Part) (more : ℕ) (beyond : (n : ℕ) → IsNumbered (rest n) n (n + more)) (S : ℕ → ℕ → Type 0) where
    -- where there is a number of turns and then the rest holds, that number of copies before the
    -- rest holds
    copies_give : ((n i j : ℕ) → S i j → PartHolds (rest n) line i j) → (turns from i k j : ℕ) → Turns R turns i k → S k j →
        PartHolds (copies_before part size turns rest from) line i j
    copies_give give zero from i k j e s = rw e (give from k j s)
    copies_give give (suc turns) from i k j (l, r, t) s = joint (part from) (copies_before part size turns rest (from + size)) line i l j ((reported_too from i l).0 r) (copies_give give turns (from + size) l k j t s)

    -- copies before a rest hold nowhere else
    copies_need : ((n i j : ℕ) → PartHolds (rest n) line i j → S i j) → (turns from i j : ℕ) → PartHolds (copies_before part size turns rest from) line i j →
        (k : ℕ) × Turns R turns i k × S k j
    copies_need need zero from i j h = (i, refl, need from i j h)
    copies_need need (suc turns) from i j h =
        let (l, r, t) = cut (part from) (copies_before part size turns rest (from + size)) from (from + size) (from + size + (turns * size + more))
        (numbered from) (copies_before_numbered part _ numbered rest _ beyond _ _) line i j h in
        let (k, u, s) = copies_need need turns (from + size) l j t in
        (k, (l, (reported_too from i l).1 r, u), s)

  -- turns, up to a number
  abbrev UpTo : ℕ → ℕ → ℕ → Type 0
  UpTo most i j = (turns : ℕ) × (turns ≤ most) × Turns R turns i j

  -- where there are up to n turns, up to n copies hold
  up_to_give : (most from i j : ℕ) → UpTo most i j → PartHolds (up_to part size most from) line i j
  up_to_give zero from i j (zero, le, e) = inl (e, tt)
  up_to_give zero from i j (suc turns, le, e) = absurd (omega arith)
  up_to_give (suc most) from i j (zero, le, e) = optional_of (in_turn (part from) (up_to part size most (from + size))) line i j (inl e)
  up_to_give (suc most) from i j (suc turns, le, (k, r, t)) =
      optional_of (in_turn (part from) (up_to part size most (from + size))) line i j (inr (joint (part from) (up_to part size most (from + size)) line i k j ((reported_too from i k).0 r)
      (up_to_give most (from + size) k j (turns, omega arith, t))))

  -- up to n copies hold nowhere else
  up_to_need : (most from i j : ℕ) → PartHolds (up_to part size most from) line i j → UpTo most i j
  up_to_need zero from i j (inl h) = (0, omega arith, h.0)
  up_to_need zero from i j (inr (q, r, l)) = absurd l
  up_to_need (suc most) from i j h =
      elim (of_optional (in_turn (part from) (up_to part size most (from + size))) line i j h) [
        | inl e ↦ (0, omega arith, e)
        | inr w ↦
            let (k, r, rest) = cut (part from) (up_to part size most (from + size)) from (from + size) (from + size + most * size) (numbered from) (up_to_numbered part _ numbered _ _) line i j w in
            let (turns, le, more) = up_to_need most (from + size) k j rest in
            (suc turns, omega arith, (k, (reported_too from i k).1 r, more))
      ]

  -- one turn or more
  abbrev OneOrMore : ℕ → ℕ → Type 0
  OneOrMore i j = (turns : ℕ) × Turns R (suc turns) i j

  -- where there is one turn or more, a copy again and again holds
  again_give : (from i j : ℕ) → OneOrMore i j → PartHolds (again (part from)) line i j
  again_give from i j (turns, t) = of_turns (part from) line turns i j (turns_map R (PartHolds (part from) line) (λ i j. (reported_too from i j).0) (suc turns) i j t)

  -- a copy again and again holds nowhere else
  again_need : (from i j : ℕ) → PartHolds (again (part from)) line i j → OneOrMore i j
  again_need from i j h =
      let (turns, t) = turns_of (part from) line i j h in
      (turns, turns_map (PartHolds (part from) line) R (λ i j. (reported_too from i j).1) (suc turns) i j t)

  abbrev Repeated : ℕ → Option ℕ → ℕ → ℕ → Type 0
  Repeated least most i j = (n : ℕ) × IsWithin least most n × Turns R n i j

  -- where there are turns within its bounds, a repeated part holds
  pub repeated_give : (least : ℕ) (most : Option ℕ) (from i j : ℕ) → Repeated least most i j → PartHolds (repeated part size least most from) line i j
  repeated_give zero None from i j (zero, w, t) = optional_of (again (part from)) line i j (inl t)
  repeated_give zero None from i j (suc turns, w, t) = optional_of (again (part from)) line i j (inr (again_give from i j (turns, t)))
  repeated_give (suc least) None from i j (turns, w, t) =
      let e : turns ≡ least + suc (turns - suc least) = omega arith in
      let (k, front, back) = turns_cut R least (suc (turns - suc least)) i j (rw e at t) in
      copies_give (λ m. again (part m)) size (λ m. again_numbered (numbered m)) OneOrMore again_give _ _ i k j front (turns - suc least, back)
  repeated_give least (Some most) from i j (turns, w, t) =
      let bound : least ≤ most = omega arith in
      let e : turns ≡ least + (turns - least) = omega arith in
      let (k, front, back) = turns_cut R least (turns - least) i j (rw e at t) in
      rw (le-leb least most bound)
      (copies_give (up_to part size (most - least)) ((most - least) * size) (up_to_numbered part size numbered (most - least)) (UpTo (most - least)) (up_to_give (most - least))
      _ _ i k j front (turns - least, omega arith, back))

  -- copies between two bounds hold only where there are turns within the bounds
  between_need : (b : Bool) (least most from i j : ℕ) → nat_le least most ≡ b →
      PartHolds (only_if b (copies_before part size least (up_to part size (most - least)) from)) line i j → Repeated least (Some most) i j
  between_need false least most from i j is (inl h) = absurd h.1
  between_need false least most from i j is (inr h) = absurd h.2
  between_need true least most from i j is h =
      let bound = leb-true least most is in
      let (k, front, (turns, le, back)) = copies_need (up_to part size (most - least)) ((most - least) * size) (up_to_numbered part size numbered (most - least))
      (UpTo (most - least)) (up_to_need (most - least)) least from i j h in
      (least + turns, (omega arith, omega arith), turns_add R _ _ i k j front back)

  -- a repeated part holds nowhere else
  pub repeated_need : (least : ℕ) (most : Option ℕ) (from i j : ℕ) → PartHolds (repeated part size least most from) line i j → Repeated least most i j
  repeated_need zero None from i j h = elim (of_optional (again (part from)) line i j h) [ inl e ↦ (0, (omega arith, tt), e) | inr w ↦ let (turns, t) = again_need from i j w in (suc turns, (omega arith, tt), t) ]
  repeated_need (suc least) None from i j h =
      let (k, front, (turns, back)) = copies_need (λ m. again (part m)) size (λ m. again_numbered (numbered m)) OneOrMore again_need least from i j h in
      (least + suc turns, (omega arith, tt), turns_add R least (suc turns) i k j front back)
  repeated_need least (Some most) from i j h = between_need (nat_le least most) least most from i j refl h
