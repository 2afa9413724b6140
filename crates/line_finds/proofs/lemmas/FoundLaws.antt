-- What is found in lines: marks, their number, and parts.
use Rattle.line_finds.proofs.{Prelude.{◌≡◌, ℕ, zero, suc, ◌+◌, ◌-◌, ◌<◌, ◌≤◌, Bool, false, List, [], ◌∷◌, ◌++◌, inl, inr, length, take, drop, replicate, get_or, refl, sym, ap, ◌∙◌, arith, cases_lt, get_or-append, take-append_seam, length-append, length-replicate, length-take, length-drop, get_or-drop, get_or_past, get_or-append-add, All-weaker, Span, Finds, FoundIn, finds_at, no_finds, numbers_at, is_paired, AreBelow, paired_before, AreMarks, set_before}, lemmas.PairLaws.none_at}

-- ---- the number of marks

pub set_paired : (pairs : List (ℕ × ℕ)) (marks : List Bool) → AreMarks pairs marks → (k : ℕ) → k ≤ length marks → set_before k marks ≡ paired_before k pairs
set_paired pairs marks are zero few = refl
set_paired pairs marks are (suc k) few = cc (set_paired pairs marks are k (omega arith), are k (omega arith))

-- ---- a line in which nothing is found

none_paired : (k : ℕ) (pairs : List (ℕ × ℕ)) → numbers_at k pairs ≡ [] → is_paired k pairs ≡ false
none_paired k pairs none = rw none

pub marks_next : (pairs : List (ℕ × ℕ)) (marks new : List Bool) → new ≡ marks ++ false ∷ [] → AreBelow (length marks) pairs → AreMarks pairs marks → AreMarks pairs new
marks_next pairs marks new is below are = λ k low.
    (let many : length new ≡ length marks + 1 = cc (length-append marks (false ∷ [])) in
    elim (cases_lt k (length marks)) [
      | inl h ↦ cc (get_or-append marks (false ∷ []) false k h, are k h)
      | inr h ↦
          let last : k ≡ length marks + 0 = omega arith in
          cc (get_or-append-add marks (false ∷ []) 0 false, none_paired k pairs (none_at (length marks) k pairs h below))
    ])

pub below_next : (n : ℕ) (pairs : List (ℕ × ℕ)) → AreBelow n pairs → AreBelow (n + 1) pairs
below_next n pairs below = All-weaker (λ x. x.0 < n) (λ x. x.0 < n + 1) (λ x h. omega arith) pairs below

pub paired_next : (n : ℕ) (pairs : List (ℕ × ℕ)) → AreBelow n pairs → paired_before (n + 1) pairs ≡ paired_before n pairs
paired_next n pairs below =
    let same : n + 1 ≡ suc n = omega arith in
    let none : 0 + paired_before n pairs ≡ paired_before n pairs = omega arith in
    cc (none_paired n pairs (none_at n n pairs (omega arith) below))

pub found_none : (found : FoundIn) (k : ℕ) → AreBelow k found.pairs → length found.parts ≤ k → finds_at found k ≡ no_finds
found_none found k below few = cc (none_at k k found.pairs (omega arith) below, get_or_past found.parts k [] few)

pub found_same : {ns ms : List ℕ} {ss ts : List Span} → ns ≡ ms → ss ≡ ts → ◌≡◌ {A = Finds} (record { numbers = ns; spans = ss }) (record { numbers = ms; spans = ts })
found_same numbers spans = cc

-- ---- lists that are removed

module _ {A : Type 0} (d : A) where
  pub kept_before : (from to : ℕ) (xs : List A) (k : ℕ) → from ≤ to → k < from → get_or (take from xs ++ drop to xs) k d ≡ get_or xs k d
  kept_before zero to xs k in_order low = absurd (omega arith)
  kept_before (suc from) zero xs k in_order low = absurd (omega arith)
  kept_before (suc from) (suc to) [] k in_order low = refl
  kept_before (suc from) (suc to) (x ∷ xs) zero in_order low = refl
  kept_before (suc from) (suc to) (x ∷ xs) (suc k) in_order low = kept_before from to xs k (omega arith) (omega arith)

  pub kept_after : (from to : ℕ) (xs : List A) (k : ℕ) → from ≤ to → get_or (take from xs ++ drop to xs) (from + k) d ≡ get_or xs (to + k) d
  kept_after zero to xs k in_order =
      let same : 0 + k ≡ k = omega arith in
      ap (λ n. get_or (drop to xs) n d) same ∙ get_or-drop to xs k d
  kept_after (suc from) zero xs k in_order = absurd (omega arith)
  kept_after (suc from) (suc to) [] k in_order = get_or_past [] (suc from + k) d (omega arith) ∙ sym (get_or_past [] (suc to + k) d (omega arith))
  kept_after (suc from) (suc to) (x ∷ xs) k in_order =
      let new : suc from + k ≡ suc (from + k) = omega arith in
      let old : suc to + k ≡ suc (to + k) = omega arith in
      rw (new, old) (kept_after from to xs k (omega arith))

  pub kept_few : (from to size : ℕ) (xs : List A) → from ≤ to → to ≤ size → length xs ≤ size → length (take from xs ++ drop to xs) ≤ size - (to - from)
  kept_few from to size xs in_order within few = omega (arith, length-append (take from xs) (drop to xs), length-take from xs, length-drop to xs)

-- ---- goals of functions

-- the number of marks is that of the paired lines
pub counted : (pairs : List (ℕ × ℕ)) {there marks : List Bool} {count n : ℕ} → there ≡ marks → count ≡ set_before (length there) there → length marks ≡ n → ((k : ℕ) → k < n → get_or marks k false ≡ is_paired k pairs) → count ≡ paired_before (length marks) pairs
counted pairs {there} {marks} same is many are = cc (set_paired pairs marks (λ k low. are k (omega arith)) (length marks) (omega arith))

-- marks that were added are cut off
pub cut_off : {all new : List Bool} (old more : List Bool) (n : ℕ) → all ≡ old ++ more → n ≡ length old → new ≡ take n all → new ≡ old
cut_off old more n is many cut = cc (take-append_seam old more)

-- marks are added until there are `size`
pub grown : {new : List Bool} (old : List Bool) (size : ℕ) → new ≡ old ++ replicate (size - length old) false → length old ≤ size → length new ≡ size
grown old size is few = omega (arith, ap length is, length-append old (replicate (size - length old) false), length-replicate (size - length old) false)
