-- Whether an expression holds on a stretch, and whether it matches a line, is decided.
use Rattle.re_trees.proofs.{Prelude.{◌≡◌, ℕ, zero, suc, ◌+◌, ◌≤◌, inl, inr, Bool, true, false, IsTrue, length, slice_get, Option, Some, arith, dec_le, ℕ_discrete, map_dec, Text, Expression, empty, one_of, none_of, begin, end, cat_none, cat_more, alt_none, alt_more, repeat, Turns, IsWithin, Holds, Matches}, lemmas.Decisions.{dec_not, dec_both, dec_either, dec_IsTrue, dec_IfSome, dec_holds_inside, dec_bounded}}

-- turns of a relation whose stretches do not end before they begin
module _ (R : ℕ → ℕ → Type 0) (R-le : (i j : ℕ) → R i j → i ≤ j) where
  -- such turns do not end before they begin
  pub Turns-le : (n i j : ℕ) → Turns R n i j → i ≤ j
  Turns-le zero i j t = omega arith
  Turns-le (suc n) i j t = omega (arith, R-le i t.0 t.1, Turns-le n t.0 j t.2)

  -- a number of turns of a decided relation is decided
  pub dec_turns : ((i j : ℕ) → Dec (R i j)) → (n i j : ℕ) → Dec (Turns R n i j)
  dec_turns d zero i j = ℕ_discrete i j
  dec_turns d (suc n) i j =
      map_dec (λ h. (h.0, h.1.0, h.1.1)) (λ t. (t.0, (t.1, t.2)))
      (dec_bounded (λ k. R i k × Turns R n k j) (λ k. dec_both (d i k) (dec_turns d n k j)) (suc j) (λ k t. omega (arith, Turns-le n k j t.1)))

  -- of more turns than places one is empty and may be left out
  fewer_turns : (n i j : ℕ) → j ≤ n + i → Turns R (suc n) i j → Turns R n i j
  fewer_turns zero i j bound t = omega (arith, R-le i t.0 t.1)
  fewer_turns (suc n) i j bound t = elim (ℕ_discrete t.0 i) [ yes e ↦ rw e at t.2 | no e ↦ (t.0, t.1, fewer_turns n t.0 j (omega (arith, R-le i t.0 t.1)) t.2) ]

  -- more turns than the least number and the places together are never needed
  pub few_turns : (least n i j : ℕ) → least ≤ n → Turns R n i j → (m : ℕ) × (m ≤ n) × (least ≤ m) × (m ≤ least + j) × Turns R m i j
  few_turns least zero i j h t = (zero, omega arith, h, omega arith, t)
  few_turns least (suc n) i j h t =
      elim (dec_le (suc n) (least + j)) [
        | yes e ↦ (suc n, omega arith, h, e, t)
        | no e ↦ (let few = few_turns least n i j (omega arith) (fewer_turns n i j (omega arith) t) in (few.0, omega arith, few.2, few.3, few.4))
      ]

-- whether a number of turns is within the bounds is decided
pub dec_IsWithin : (least : ℕ) (most : Option ℕ) (n : ℕ) → Dec (IsWithin least most n)
dec_IsWithin least most n = dec_both (dec_le least n) (dec_IfSome (λ top. n ≤ top) (λ top. dec_le n top) most)

-- fewer turns, but enough, are within the bounds where more turns are
IsWithin-less : (least m n : ℕ) (most : Option ℕ) → least ≤ m → m ≤ n → IsWithin least most n → IsWithin least most m
IsWithin-less least m n most h up w = grind arith

-- a stretch on which an expression holds does not end before it begins
pub Holds-le : (line : Text) (e : Expression) (i j : ℕ) → Holds line e i j → i ≤ j
Holds-le line (cat_more e rest) i j h = omega (arith, Holds-le line e i h.0 h.1, Holds-le line rest h.0 j h.2)
Holds-le line alt_none i j h = absurd h
Holds-le line (alt_more e rest) i j (inl h) = Holds-le line e i j h
Holds-le line (alt_more e rest) i j (inr h) = Holds-le line rest i j h
Holds-le line (repeat e least most) i j h = Turns-le (Holds line e) (Holds-le line e) h.0 i j h.2
Holds-le line _ i j h = omega arith

-- whether one byte at place i passes a decided test, and the stretch ends after it, is decided
dec_one_byte : (P : ℕ → Type 0) → ((b : ℕ) → Dec (P b)) → (line : Text) (i j : ℕ) → Dec ((b : ℕ) × (slice_get line i ≡ Some b) × P b × (j ≡ i + 1))
dec_one_byte P d line i j = map_dec (λ h. (h.0, h.1, h.2.0, h.2.1)) (λ h. (h.0, h.1, (h.2, h.3))) (dec_holds_inside (λ b. P b × (j ≡ i + 1)) (λ b. dec_both (d b) (ℕ_discrete j (i + 1))) _)

-- whether there are turns of a number within the bounds is decided
dec_repeat : (R : ℕ → ℕ → Type 0) → ((i j : ℕ) → R i j → i ≤ j) → ((i j : ℕ) → Dec (R i j)) → (least : ℕ) (most : Option ℕ) (i j : ℕ) →
    Dec ((n : ℕ) × IsWithin least most n × Turns R n i j)
dec_repeat R R-le d least most i j =
    map_dec (λ h. (h.0, h.1.1, h.1.2))
    (λ h. let few = few_turns R R-le least h.0 i j h.1.0 h.2 in (few.0, (few.3, IsWithin-less _ _ _ _ few.2 few.1 h.1, few.4)))
    (dec_bounded (λ n. (n ≤ least + j) × IsWithin least most n × Turns R n i j)
    (λ n. map_dec (λ h. (h.0, h.1.0, h.1.1)) (λ h. (h.0, (h.1, h.2))) (dec_both (dec_le n (least + j)) (dec_both (dec_IsWithin _ _ n) (dec_turns R R-le d n i j))))
    (suc (least + j)) (λ n h. omega arith))

-- whether an expression holds on a stretch is decided
pub dec_holds : (line : Text) (e : Expression) (i j : ℕ) → Dec (Holds line e i j)
dec_holds line empty i j = ℕ_discrete i j
dec_holds line (one_of s) i j = dec_one_byte (λ b. IsTrue (s b)) (λ b. dec_IsTrue (s b)) line i j
dec_holds line (none_of s) i j = dec_one_byte (λ b. IsTrue (s b) → ⊥) (λ b. dec_not (dec_IsTrue _)) line i j
dec_holds line begin i j = dec_both (ℕ_discrete i 0) (ℕ_discrete j 0)
dec_holds line end i j = dec_both (ℕ_discrete i (length line)) (ℕ_discrete j (length line))
dec_holds line cat_none i j = ℕ_discrete i j
dec_holds line (cat_more e rest) i j =
    map_dec (λ h. (h.0, h.1.0, h.1.1)) (λ h. (h.0, (h.1, h.2)))
    (dec_bounded (λ k. Holds line e i k × Holds line rest k j) (λ k. dec_both (dec_holds line e i k) (dec_holds line rest k j)) (suc j) (λ k h. omega (arith, Holds-le line rest k j h.1)))
dec_holds line alt_none i j = no (λ h. h)
dec_holds line (alt_more e rest) i j = dec_either (dec_holds line e i j) (dec_holds line rest i j)
dec_holds line (repeat e least most) i j = dec_repeat (Holds line e) (Holds-le line e) (dec_holds line e) _ _ i j

-- whether an expression matches a line is decided
pub dec_matches : (e : Expression) (line : Text) (whole : Bool) → Dec (Matches e line whole)
dec_matches e line true = dec_holds line e 0 (length line)
dec_matches e line false =
    map_dec (λ h. (h.1.0, h.0, h.1.1.0, h.1.1.1)) (λ m. (m.1, (m.0, (m.2, m.3)))) (dec_bounded (λ j. (i : ℕ) × ((j ≤ length line) × Holds line e i j))
    (λ j. dec_bounded (λ i. (j ≤ length line) × Holds line e i j) (λ i. dec_both (dec_le j (length line)) (dec_holds line e i j)) (suc j) (λ i h. omega (arith, Holds-le line e i j h.1)))
    (suc (length line)) (λ j h. omega arith))
