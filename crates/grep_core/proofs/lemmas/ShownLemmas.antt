-- Which lines are shown around selected ones as a file has more lines, and what is shown of them.
use Rattle.grep_core.proofs.Prelude.{AreUnselected, ◌≡◌, ℕ, zero, suc, ◌+◌, ◌-◌, ◌<◌, ◌≤◌, ◌⊎◌, List, [], ◌∷◌, ◌++◌, Option, length, inl, inr, refl, arith, enumerate_from, Text, Expression, Context, Options, IfHolds, EachGives, Selected, IsShown, BeginsGroup, Shows, cases_lt, length-append, get_or_append_left, get_or-append_right, get_or_push, All-get_or}

-- ---- lists made from numbered elements

-- what numbered elements give by one relation they give by another, where each of them does
pub EachGives-placed : {A B : Type 0} (R S : ℕ × A → List B → Type 0) (n : ℕ) (xs : List A) (ys : List B)
    → ((k : ℕ) (x : A) (zs : List B) → n ≤ k → k < n + length xs → R (k, x) zs → S (k, x) zs) → EachGives R (enumerate_from n xs) ys → EachGives S (enumerate_from n xs) ys
EachGives-placed R S n [] _ _ h = h
EachGives-placed R S n (x ∷ xs) ys same h =
    (h.0, h.1, same n x h.0 (omega arith) (omega arith) h.2, EachGives-placed R S (n + 1) xs h.1 (λ k y zs low high r. same k y zs (omega (arith, low)) (omega (arith, high)) r) h.3, h.4)

-- numbered elements that give nothing
pub EachGives-placed_nothing : {A B : Type 0} (R : ℕ × A → List B → Type 0) (n : ℕ) (xs : List A)
    → ((k : ℕ) (x : A) → n ≤ k → k < n + length xs → R (k, x) []) → EachGives R (enumerate_from n xs) []
EachGives-placed_nothing R n [] none = refl
EachGives-placed_nothing R n (x ∷ xs) none =
    ([], [], none n x (omega arith) (omega arith), EachGives-placed_nothing R (n + 1) xs (λ k y low high. none k y (omega (arith, low)) (omega (arith, high))), refl)

-- one case of two holds of what is equivalent
pub IfHolds-same : {P Q A B : Type 0} → (P → Q) → (Q → P) → IfHolds P A B → IfHolds Q A B
IfHolds-same f g (inl h) = inl (f h.0, h.1)
IfHolds-same f g (inr h) = inr ((λ q. h.0 (g q)), h.1)

-- and in each case more follows
IfHolds-more : {P A B C D : Type 0} → (A → C) → (B → D) → IfHolds P A B → IfHolds P C D
IfHolds-more f g (inl h) = inl (h.0, f h.1)
IfHolds-more f g (inr h) = inr (h.0, g h.1)

module _ (es : List Expression) (options : Options) (context : Context) where
  -- ---- lines that are shown

  -- a line that is shown stays so
  pub shown_more : (lines more : List Text) (k : ℕ) → IsShown es options context lines k → IsShown es options context (lines ++ more) k
  shown_more lines more k h = record {
    place = h.place;
    on = omega (arith, h.on, length-append lines more);
    selected = rw (get_or_append_left lines more [] h.place h.on) h.selected;
    before = h.before;
    after = h.after;
  }

  -- lines that are not selected show no other
  pub shown_passed : (lines more : List Text) (k : ℕ) → AreUnselected es options more → IsShown es options context (lines ++ more) k → IsShown es options context lines k
  shown_passed lines more k none h = elim (cases_lt h.place (length lines)) [
    | inl on ↦ record {
      place = h.place;
      on = on;
      selected = rw (get_or_append_left lines more [] h.place on) at h.selected;
      before = h.before;
      after = h.after;
    }
    | inr out ↦ absurd (All-get_or (λ line. ¬ Selected es options line) more (h.place - length lines) [] (omega (arith, out, h.on, length-append lines more)) none
        (rw (get_or-append_right lines more (length lines) h.place [] refl out) at h.selected))
  ]

  -- what one more line shows is near it
  pub shown_cases : (lines : List Text) (line : Text) {k : ℕ} → IsShown es options context (lines ++ line ∷ []) k → IsShown es options context lines k ⊎ ((length lines ≤ k + context.before) × (k ≤ length lines + context.after))
  shown_cases lines line h = elim (cases_lt h.place (length lines)) [
    | inl on ↦ inl (record {
      place = h.place;
      on = on;
      selected = rw (get_or_append_left lines (line ∷ []) [] h.place on) at h.selected;
      before = h.before;
      after = h.after;
    })
    | inr out ↦
        let same : h.place ≡ length lines = omega (arith, out, h.on, length-append lines (line ∷ [])) in
        inr (omega (arith, h.before, same), omega (arith, h.after, same))
  ]

  -- one more line, which is selected, shows those near it
  pub shown_near : (lines : List Text) (line : Text) (k : ℕ) → Selected es options line → length lines ≤ k + context.before → k ≤ length lines + context.after → IsShown es options context (lines ++ line ∷ []) k
  shown_near lines line k selected before after = record {
    place = length lines;
    on = omega (arith, length-append lines (line ∷ []));
    selected = rw (get_or_push lines line [] (length lines) refl) selected;
    before = before;
    after = after;
  }

  -- a group begins where no line just before is shown
  pub begins_from : (lines : List Text) (k : ℕ) → ((j : ℕ) → k ≡ j + 1 → ¬ IsShown es options context lines j) → BeginsGroup es options context lines k
  begins_from lines zero none = tt
  begins_from lines (suc k) none = none k (omega arith)

  -- where a group begins the line just before is not shown
  pub begins_at : (lines : List Text) (k j : ℕ) → BeginsGroup es options context lines k → k ≡ j + 1 → ¬ IsShown es options context lines j
  begins_at lines zero j h e = absurd (omega (arith, e))
  begins_at lines (suc k) j h e = let same : k ≡ j = omega (arith, e) in rw same at h

  -- groups begin alike where the lines before are shown alike
  pub begins_same : (lines others : List Text) (k : ℕ) → ((j : ℕ) → j < k → IsShown es options context others j → IsShown es options context lines j)
      → BeginsGroup es options context lines k → BeginsGroup es options context others k
  begins_same lines others k same h = begins_from others k (λ j e shown. begins_at lines k j h e (same j (omega (arith, e)) shown))

  -- ---- what is shown of a line

  module _ (name : Option Text) (number : ℕ → Option ℕ) where
    -- it is the same where the line, and the one before it, are shown alike
    pub shows_same : (lines others : List Text) (k : ℕ) (line : Text) (out : List Text)
        → ((j : ℕ) → j ≤ k → IsShown es options context lines j → IsShown es options context others j) → ((j : ℕ) → j ≤ k → IsShown es options context others j → IsShown es options context lines j)
        → Shows es options context name (number (k + 1)) lines k line out → Shows es options context name (number (k + 1)) others k line out
    shows_same lines others k line out to from h =
        IfHolds-more (λ s. (s.0, s.1, IfHolds-same (begins_same lines others k (λ j low. from j (omega (arith, low)))) (begins_same others lines k (λ j low. to j (omega (arith, low)))) s.2)) (λ none. none)
        (IfHolds-same (to k (omega arith)) (from k (omega arith)) h)
