-- What operations on vectors of 32 bytes hold at each lane, beside those of memchr.
use Rattle.{re_runs.proofs.Prelude.{IsTrue, bits_of, half_of, HasBitAt, AllPass, Probes, bit_at-zero, bit_at_and, ◌≡◌, ◌≢◌, ◌↔◌, ℕ, ◌+◌, ◌*◌, ◌/◌, ◌%◌, ◌^◌, ◌<◌, List, Bool, true, false, not, cond, eqb, ltb, min, bit_and, length, get_or, slice_index, map, replicate, refl, sym, ap, ◌∙◌, arith, w8, bit_at, zip2, sel_l, mask_l, top, HasLanes, Text, Probe, ltb-true, ltb-false, eqb-true, eqb-false, get_or-zip2, get_or-replicate, length-zip2, length-swz_l, get_or-swz_l_below, swz_l, SwzOk, SwzOk-from_below, Each1-from_get_or, length-sel_l, get_or-sel_l, tops_compared, bitmask_splat, bit_mask_l}, std.proofs.Math.ListN.get_or-map, memchr.proofs.lemmas.LaneLemmas.{HasLanes-zip2, HasLanes-select}}

-- an operator on a vector and a splat
pub with_splat : (f : ℕ → ℕ → ℕ) (a : List ℕ) (x : ℕ) → length a ≡ 32 → HasLanes (zip2 f a (replicate 32 x)) (λ k. f (get_or a k 0) x)
with_splat f a x p =
    let h = HasLanes-zip2 f a (replicate 32 x) p refl in
    record { long = h.long; each = λ k l. h.each k l ∙ ap (f (get_or a k 0)) (get_or-replicate 32 k x 0 l) }

module _ (js : List ℕ) (f : ℕ → ℕ) (h : HasLanes js f) (small : (k : ℕ) → k < 32 → f k < 16) where
  -- places below 16 may be looked up
  pub may_look_up : SwzOk w8 16 32 0 js
  may_look_up = SwzOk-from_below w8 16 2 32 0 js refl (omega arith) (Each1-from_get_or (λ j. j < 16) js 0 (λ i l. omega (arith, h.each i (omega arith), small i (omega arith))))

  picked : (wide : List ℕ) → HasLanes (swz_l w8 16 wide 0 js) (λ k. get_or wide (16 * (k / 16) + f k) 0)
  picked wide =
      let long = h.long in
      record {
        long = length-swz_l w8 16 wide 0 js ∙ long;
        each = λ k l.
            let e = h.each k l in
            get_or-swz_l_below w8 16 wide 0 js k (omega arith) (omega (arith, small k l)) ∙ ap (λ j. get_or wide j 0) (omega arith);
      }

  -- what the look-up gives, in a vector that holds the table twice
  pub looked_up : {wide : List ℕ} (table : List ℕ) → HasLanes wide (λ k. get_or table (k % 16) 0) → HasLanes (swz_l w8 16 wide 0 js) (λ k. get_or table (f k) 0)
  looked_up {wide} table twice =
      let got = picked wide in
      record {
        long = got.long;
        each = λ k l.
            let below = small k l in
            got.each k l ∙ twice.each (16 * (k / 16) + f k) (omega arith) ∙ ap (λ j. get_or table j 0) (omega arith);
      }

the_lesser : (x y : ℕ) (t : Bool) → ltb x y ≡ t → cond t x y ≡ min x y
the_lesser x y true is = omega (arith, ltb-true x y is)
the_lesser x y false is = omega (arith, ltb-false x y is)

-- `simd_min`
pub lesser_lanes : (a b : List ℕ) → length a ≡ 32 → length b ≡ 32
    → HasLanes (sel_l (map (top 7) (zip2 (λ x y. cond (ltb x y) 255 0) a b)) a b) (λ k. min (get_or a k 0) (get_or b k 0))
lesser_lanes a b p q =
    let long = length-zip2 ltb a b (p ∙ sym q) ∙ p in
    rw (tops_compared w8 ltb a b) (record {
      long = length-sel_l _ a b (long ∙ sym p) (long ∙ sym q) ∙ long;
      each = λ k l.
          get_or-sel_l _ a b k 0 (omega arith) (omega arith) (omega arith) ∙ ap (λ t. cond t (get_or a k 0) (get_or b k 0)) (get_or-zip2 ltb a b k 0 0 false (omega arith) (omega arith))
          ∙ the_lesser (get_or a k 0) (get_or b k 0) _ refl;
    })

abbrev pub differs : ℕ → ℕ → Bool
differs x y = not (eqb x y)

reported : (x : ℕ) (t : Bool) → eqb x 0 ≡ t → (cond {A = ℕ} (not t) 1 0 ≡ 1) ↔ (x ≢ 0)
reported x true is = (λ h. absurd (omega arith), λ h. absurd (h (eqb-true x 0 is)))
reported x false is = (λ h. eqb-false x 0 is, λ h. refl)

-- `to_bitmask` of `simd_ne` with 0
pub nonzero_bits : (v : List ℕ) (k : ℕ) → length v ≡ 32
    → (bit_at (mask_l (map (top 7) (zip2 (λ x y. cond (differs x y) 255 0) v (replicate 32 0))) % 2 ^ 64) k ≡ 1) ↔ (get_or v k 0 ≢ 0)
nonzero_bits v k long =
    let e = ap (λ m. bit_at m k) (bitmask_splat w8 differs v 32 0 long (omega arith)) ∙ bit_mask_l (map (λ x. differs x 0) v) k ∙ ap (λ b. cond {A = ℕ} b 1 0) (get_or-map (λ x. differs x 0) v k 0) in
    let t = reported (get_or v k 0) _ refl in (λ h. t.0 (sym e ∙ h), λ h. e ∙ t.1 h)

-- the comparison of chosen bits with a splat
pub equal_lanes : (v : List ℕ) (asked bits : ℕ) (chosen : List ℕ) → length v ≡ 32
    → HasLanes chosen (λ k. bit_and (get_or v k 0) (get_or (replicate 32 asked) k 0))
    → HasLanes (sel_l (map (top 7) (zip2 (λ x y. cond (eqb x y) 255 0) chosen (replicate 32 bits))) (replicate 32 255) (replicate 32 0)) (λ k. cond (eqb (bit_and (get_or v k 0) asked) bits) 255 0)
equal_lanes v asked bits chosen long h =
    let reported = HasLanes-select eqb chosen bits 255 0 h.long in
    rw (tops_compared w8 eqb chosen (replicate 32 bits)) (record { long = reported.long; each = λ k l. cc (reported.each k l, h.each k l ∙ ap (bit_and (get_or v k 0)) (get_or-replicate 32 k asked 0 l)) })

-- ---- where probes are passed, by vectors of what their tests give

module _ (each : Bool) (probes : Probes) (line : Text) (place k : ℕ) (all : AllPass each probes line (place + k)) (below : k < 32) where
  abbrev AreBits : Probe → List ℕ → Type 0
  AreBits probe a = HasLanes a (λ i. bits_of probe.nibbles (slice_index line (place + i + probe.at)))

  abbrev AreBoth : List ℕ → List ℕ → List ℕ → Type 0
  AreBoth v a b = HasLanes v (λ i. bit_and (get_or a i 0) (get_or b i 0))

  abbrev AreHalves : Probe → List ℕ → Type 0
  AreHalves probe a = HasLanes a (λ i. half_of probe.nibbles (slice_index line (place + i + probe.at)))

  has_some : (bit x : ℕ) → bit_at x bit ≡ 1 → x ≢ 0
  has_some bit x one none = omega (arith, one, bit_at-zero bit, ap (λ y. bit_at y bit) none)

  both_have : (bit : ℕ) (v a b : List ℕ) → AreBoth v a b → bit_at (get_or a k 0) bit ≡ 1 → bit_at (get_or b k 0) bit ≡ 1 → bit_at (get_or v k 0) bit ≡ 1
  both_have bit v a b both one two = rw (both.each k below) (omega (arith, bit_at_and (get_or a k 0) (get_or b k 0) bit, one, two))

  half_has : (probe : Probe) (bit : ℕ) (a : List ℕ) → HasBitAt probe line (place + k) bit → AreHalves probe a → bit_at (get_or a k 0) bit ≡ 1
  half_has probe bit a has half =
      let x = slice_index line (place + k + probe.at) in
      rw (half.each k below) (omega (arith, bit_at_and (slice_index probe.nibbles.low (x % 16)) (slice_index probe.nibbles.high (x / 16)) bit, has))

  -- four look-ups of halves have a bit in common
  pub halves_met : IsTrue each → (v w u a b c d : List ℕ) → AreBoth v a b → AreBoth w v c → AreBoth u w d
      → AreHalves probes.first a → AreHalves probes.second b → AreHalves probes.third c → AreHalves probes.fourth d → get_or u k 0 ≢ 0
  halves_met several v w u a b c d two three four first second third fourth =
      let (bit, has1, has2, has3, has4) = all.common several in
      has_some bit _ (both_have bit u w d four (both_have bit w v c three (both_have bit v a b two (half_has probes.first bit a has1 first) (half_has probes.second bit b has2 second)) (half_has probes.third bit c has3 third)) (half_has probes.fourth bit d has4 fourth))

  -- two whole ones have one, too
  pub pair_met : IsTrue each → (v a b : List ℕ) → AreBoth v a b → AreBits probes.first a → AreBits probes.second b → get_or v k 0 ≢ 0
  pair_met several v a b both first second =
      let (bit, has1, has2, _, _) = all.common several in
      has_some bit _ (both_have bit v a b both (rw (first.each k below) has1) (rw (second.each k below) has2))
