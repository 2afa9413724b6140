-- Where a byte is, by the marks of a vector, and by looks at several vectors in turn.
use Rattle.{re_runs.proofs.Prelude.{◌≡◌, ℕ, ◌+◌, ◌-◌, ◌%◌, ◌^◌, ◌<◌, ◌≤◌, inl, inr, Bool, true, false, List, Some, None, length, drop, get_or, slice_index, map, replicate, cond, eqb, refl, sym, ap, ◌∙◌, arith, w8, bit_at, bit_at-zero, zip2, mask_l, top, true≢false, cases_lt, bitmask_splat, bit_mask_l, get_or-drop, length-drop, length-map, Text, HasLanes, Marks, Nowhere, OccursAt, FindsNeedle}, memchr.specs.Find.{IsFirst, NoneAfter, Passes, is_byte}, memchr.proofs.lemmas.{FindLemmas.{Nowhere-then}, ScanLemmas.unmarked}, std.proofs.lemmas.List.{get_or-map, get_or_past}}

-- ---- the marks of a vector

set_bit : (b : Bool) → cond {A = ℕ} b 1 0 ≡ 1 → b ≡ true
set_bit true is = refl
set_bit false is = absurd (omega arith)

module _ (line : Text) (i byte : ℕ) (v : List ℕ) (h : HasLanes v (λ k. slice_index line (i + k))) where
  abbrev tests : List Bool
  tests = map (λ x. eqb x byte) v

  bit : (k : ℕ) → bit_at (mask_l (map (top 7) (zip2 (λ x y. cond (eqb x y) 255 0) v (replicate 32 byte))) % 2 ^ 64) k ≡ cond {A = ℕ} (get_or tests k false) 1 0
  bit k = ap (λ m. bit_at m k) (bitmask_splat w8 eqb v 32 byte h.long (omega arith)) ∙ bit_mask_l tests k

  lane : (k : ℕ) → k < 32 → get_or tests k false ≡ eqb (slice_index line (i + k)) byte
  lane k below = get_or-map (λ x. eqb x byte) v k 0 false (omega (arith, h.long)) ∙ ap (λ x. eqb x byte) (h.each k below)

  pub marked : Marks (Passes (is_byte byte) line) i (i + 32) (mask_l (map (top 7) (zip2 (λ x y. cond (eqb x y) 255 0) v (replicate 32 byte))) % 2 ^ 64)
  marked = record {
    each = λ k lt is. bit k ∙ ap (λ b. cond {A = ℕ} b 1 0) (lane k (omega arith) ∙ is);
    within = λ k set. elim (cases_lt k 32) [
      | inl below ↦ omega arith
      | inr past ↦ absurd (true≢false (sym (set_bit _ (sym (bit k) ∙ set)) ∙ get_or_past tests k false (omega (arith, h.long, length-map v (λ x. eqb x byte)))))
    ];
  }

  pub exact : (k : ℕ) → bit_at (mask_l (map (top 7) (zip2 (λ x y. cond (eqb x y) 255 0) v (replicate 32 byte))) % 2 ^ 64) k ≡ 1 → Passes (is_byte byte) line (i + k)
  exact k set = let below = marked.within k set in sym (lane k (omega arith)) ∙ set_bit _ (sym (bit k) ∙ set)

-- ---- the last place among some

-- of marks that are exact those below some bit are left
module _ (P : ℕ → Type 0) (from count m b : ℕ) (few : count ≤ 32) (marks : Marks P from (from + 32) m) (right : (k : ℕ) → bit_at m k ≡ 1 → P (from + k))
    (kept : (k : ℕ) → k < count → bit_at b k ≡ bit_at m k) (no_more : (k : ℕ) → bit_at b k ≡ 1 → k < count) where
  clear : (k : ℕ) → from ≤ k → k < from + count → bit_at b (k - from) ≡ 0 → ¬ P k
  clear k low high none = unmarked marks k low (omega arith) (sym (kept (k - from) (omega arith)) ∙ none)

  pub none_left : b ≡ 0 → Nowhere P from (from + count)
  none_left is k low high = clear k low high (ap (λ x. bit_at x (k - from)) is ∙ bit_at-zero _)

  pub last_left : (h : ℕ) → bit_at b h ≡ 1 → ((k : ℕ) → h < k → bit_at b k ≡ 0) → NoneAfter P from (from + count) (from + h) × P (from + h)
  last_left h set above = (
    record { low = omega arith; high = omega (arith, no_more h set); after = λ k low high. clear k (omega arith) high (above (k - from) (omega arith)) },
    right h (sym (kept h (no_more h set)) ∙ set),
  )

-- ---- the first place, after some that were looked at

module _ (bytes : Text) (n : ℕ) (within : n ≤ length bytes) where
  module _ (test : ℕ → Bool) (none : Nowhere (Passes test bytes) 0 n) where
    pub none_from : IsFirst (Passes test (drop n bytes)) 0 (length (drop n bytes)) None → IsFirst (Passes test bytes) 0 (length bytes) None
    none_from later = Nowhere-then none (λ k low high p.
        let at : n + (k - n) ≡ k = omega arith in
        later (k - n) (omega arith) (omega (arith, length-drop n bytes)) (ap test (get_or-drop n bytes (k - n) 0) ∙ rw (sym at) at p))

    pub first_from : (k : ℕ) → IsFirst (Passes test (drop n bytes)) 0 (length (drop n bytes)) (Some k) → IsFirst (Passes test bytes) 0 (length bytes) (Some (n + k))
    first_from k (first, is) = (
      record {
        low = omega arith;
        high = omega (arith, first.high, length-drop n bytes);
        before = Nowhere-then none (λ j low high p.
            let at : n + (j - n) ≡ j = omega arith in
            first.before (j - n) (omega arith) (omega arith) (ap test (get_or-drop n bytes (j - n) 0) ∙ rw (sym at) at p));
      },
      sym (ap test (get_or-drop n bytes k 0)) ∙ is,
    )

-- ---- a text after some places

module _ (line text : Text) (n : ℕ) (within : n ≤ length line) where
  pub occurs_later : (k : ℕ) → OccursAt (drop n line) text k → OccursAt line text (n + k)
  occurs_later k o = let fits = o.fits in record {
    fits = omega (arith, length-drop n line);
    reads = λ j below. let at : n + (k + j) ≡ n + k + j = omega arith in rw at at (sym (get_or-drop n line (k + j) 0)) ∙ o.reads j below;
  }

  pub occurs_sooner : (k : ℕ) → OccursAt line text (n + k) → OccursAt (drop n line) text k
  occurs_sooner k o = let fits = o.fits in record {
    fits = omega (arith, length-drop n line);
    reads = λ j below. let at : n + (k + j) ≡ n + k + j = omega arith in get_or-drop n line (k + j) 0 ∙ rw (sym at) at (o.reads j below);
  }

  module _ (none : Nowhere (OccursAt line text) 0 n) where
    text_nowhere : (high : ℕ) → Nowhere (OccursAt (drop n line) text) 0 high → Nowhere (OccursAt line text) 0 (n + high)
    text_nowhere high later = Nowhere-then none (λ k low below o.
        let at : n + (k - n) ≡ k = omega arith in later (k - n) (omega arith) (omega arith) (occurs_sooner (k - n) (rw (sym at) at o)))

    pub no_text_from : FindsNeedle (drop n line) text 0 None → FindsNeedle line text 0 None
    no_text_from later = λ k low high o. text_nowhere (length (drop n line) + 1) later k low (omega (arith, length-drop n line)) o

    pub text_from : (k : ℕ) → FindsNeedle (drop n line) text 0 (Some k) → FindsNeedle line text 0 (Some (n + k))
    text_from k (first, is) = (record { low = omega arith; high = omega (arith, first.high, length-drop n line); before = text_nowhere k first.before }, occurs_later k is)
