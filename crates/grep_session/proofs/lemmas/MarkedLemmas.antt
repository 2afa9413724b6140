-- The cost of the lines that are marked, one line after the other.
use Rattle.{grep_session.proofs.{Prelude.{◌≡◌, cases_lt, inl, inr, ℕ, zero, suc, ◌+◌, ◌*◌, ◌<◌, ◌≤◌, Bool, true, false, if◌then◌else◌, Decides, List, [], ◌∷◌, ◌++◌, length, length-append, take, take_all, get_or, refl, sym, ap, ◌∙◌, arith, add-one, take-suc, false≢true, Text, newline, terminated, Steps, AddsAtMost, Chosen, search_cost, pairs_cost, marked_cost, subst}, lemmas.StepLemmas.{chosen_all, pairs_cost-append}}, std.specs.Bool.⊤, re_meter.proofs.lemmas.Adding.{adds_both, adds_within}, grep_core.proofs.lemmas.ChooseLaws.{Chosen-end, Chosen-passed}}

module _ (mark : ℕ → Bool) (many : ℕ) (texts : List Text) where
  -- more lines cost no less
  marked_more : (k n : ℕ) → k ≤ n → marked_cost mark many texts k ≤ marked_cost mark many texts n
  marked_more k zero h = let none : k ≡ 0 = omega arith in omega (arith, ap (marked_cost mark many texts) none)
  marked_more k (suc n) h = elim (cases_lt k (suc n)) [
    | inl less ↦ (let rest = marked_more k n (omega arith) in omega arith)
    | inr past ↦ (let same : k ≡ suc n = omega arith in omega (arith, ap (marked_cost mark many texts) same))
  ]

  -- the steps for the first lines are within the cost of more
  pub marked_front : (k n : ℕ) (begun ended : Steps) → k ≤ n → AddsAtMost (marked_cost mark many texts k) begun ended → AddsAtMost (marked_cost mark many texts n) begun ended
  marked_front k n begun ended h few = adds_within _ _ _ _ begun ended (marked_more k n h) (marked_more k n h) few

  -- the steps for one more line
  pub marked_next : (k few : ℕ) (begun mid ended : Steps) → few ≡ (if mark k then search_cost many (get_or texts k []) else 0) → AddsAtMost (marked_cost mark many texts k) begun mid → AddsAtMost few mid ended → AddsAtMost (marked_cost mark many texts (k + 1)) begun ended
  marked_next k few begun mid ended is a b =
      let all = marked_cost mark many texts k in
      subst (λ n. AddsAtMost n begun ended) (ap (λ n. all + n) is ∙ sym (ap (marked_cost mark many texts) (add-one k))) (adds_both all few all few begun mid ended a b)

  -- the marked lines, where this is what is marked
  module _ (P : Text → Type 0) (decided : (k : ℕ) → k < length texts → Decides (mark k) (P (get_or texts k []))) where
    -- those of the first lines
    abbrev First : ℕ → Type 0
    First k = (lines : List Text) × Chosen P (take k texts) lines × (marked_cost mark many texts k ≡ pairs_cost many lines)

    one_more : (k : ℕ) → k < length texts → First k → (b : Bool) → mark k ≡ b → First (suc k)
    one_more k h first true on =
        let line = get_or texts k [] in
        let all = first.0 ++ line ∷ [] in
        let cost : marked_cost mark many texts k + search_cost many line ≡ pairs_cost many all = omega (arith, pairs_cost-append many first.0 (line ∷ [])) in
        (all, rw (take-suc texts k [] h) (Chosen-end P (take k texts) line first.0 first.1 ((decided k h).0 on)), ap (λ b. marked_cost mark many texts k + (if b then search_cost many line else 0)) on ∙ cost)
    one_more k h first false off =
        let line = get_or texts k [] in
        let cost : marked_cost mark many texts k + 0 ≡ pairs_cost many first.0 = omega arith in
        (first.0, rw (take-suc texts k [] h) (Chosen-passed P (take k texts) line first.0 first.1 (λ p. false≢true (sym off ∙ (decided k h).1 p))), ap (λ b. marked_cost mark many texts k + (if b then search_cost many line else 0)) off ∙ cost)

    first_lines : (k : ℕ) → k ≤ length texts → First k
    first_lines zero h = ([], refl, refl)
    first_lines (suc k) h = let less : k < length texts = omega arith in one_more k less (first_lines k (omega arith)) _ refl

    pub marked_lines : (count : ℕ) → length texts ≡ count → (lines : List Text) × Chosen P texts lines × (marked_cost mark many texts count ≡ pairs_cost many lines)
    marked_lines count is =
        let all = first_lines count (omega arith) in
        (all.0, rw (take_all count texts (omega arith)) at all.1, all.2)

-- the steps for one more line that is marked, by one pattern
pub searched_next : (mark : ℕ → Bool) (texts : List Text) (k : ℕ) (line : Text) (begun mid ended : Steps) → mark k ≡ true → get_or texts k [] ≡ line → AddsAtMost (marked_cost mark 1 texts k) begun mid → AddsAtMost (length line + 1) mid ended → AddsAtMost (marked_cost mark 1 texts (k + 1)) begun ended
searched_next mark texts k line begun mid ended on is a b =
    let once : length line + 1 ≡ search_cost 1 line = omega arith in
    marked_next mark 1 texts k (length line + 1) begun mid ended (cc) a b

-- by more patterns
pub pairs_times : (many : ℕ) (lines : List Text) → many * pairs_cost 1 lines ≡ pairs_cost many lines
pairs_times many [] = omega arith
pairs_times many (line ∷ lines) = spread (search_cost 1 line) (pairs_cost 1 lines) ∙ (λ i. once i + pairs_times many lines i)
  where
    spread : (a b : ℕ) → many * (a + b) ≡ many * a + many * b
    spread a b = omega arith

    once : many * search_cost 1 line ≡ search_cost many line
    once = rw (let one : search_cost 1 line ≡ length line + 1 = omega arith in one)

-- all lines are searched
all_lengths : (texts : List Text) → length (terminated texts) ≡ pairs_cost 1 texts
all_lengths [] = refl
all_lengths (text ∷ texts) =
    let rest = all_lengths texts in
    omega (arith, length-append text (newline ∷ terminated texts))

pub all_marked : (texts : List Text) (count : ℕ) → length texts ≡ count → length (terminated texts) ≡ marked_cost (λ k. true) 1 texts count
all_marked texts count is =
    let all = marked_lines (λ k. true) 1 texts (λ text. ⊤) (λ k high. ((λ on. tt), (λ t. refl))) count is in
    all_lengths _ ∙ ap (pairs_cost 1) (sym (chosen_all (λ text. ⊤) _ _ (λ text. tt) all.1)) ∙ sym all.2
