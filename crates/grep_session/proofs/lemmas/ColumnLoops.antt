-- The lines of a chunk that an expression matches, noted one after the other.
use Rattle.{grep_session.proofs.{Prelude.{◌≡◌, ℕ, take, drop, length-take, length-drop, ◌+◌, ◌<◌, ◌≤◌, Any, Bool, false, List, [], ◌∷◌, ◌++◌, inl, inr, length, get_or, refl, sym, ap, subst, ◌∙◌, arith, append-nil, append_assoc, if◌then◌else◌, Some, ◌⊎◌, Text, Expression, Matches, numbers_at, AreBelow, AddsColumn, IsNextLine, AddsMatching, cases_lt, All-push, All-nil, All-append}, lemmas.NumberLemmas.{adds_one_matching, passes_one_matching, adds_none_matching, adds_more_matching}}, std.proofs.Math.Seq.drop-append-le, re_syntax.proofs.lemmas.{Decisions.Any-first, SomeOfJoined.{Any-left, Any-right}}, line_chunks.proofs.lemmas.PairLaws.{eq_yes, eq_no, numbers_at-append}}

-- one pair more at its line, and at another
pub one_here : (k n : ℕ) (xs : List (ℕ × ℕ)) → numbers_at k (xs ++ (k, n) ∷ []) ≡ numbers_at k xs ++ n ∷ []
one_here k n xs = numbers_at-append k xs ((k, n) ∷ []) ∙ ap (λ b. numbers_at k xs ++ (if b then n ∷ [] else [])) (eq_yes k k refl)

pub one_elsewhere : (k other n : ℕ) (xs : List (ℕ × ℕ)) → (other ≡ k → ⊥) → numbers_at k (xs ++ (other, n) ∷ []) ≡ numbers_at k xs
one_elsewhere k other n xs apart = cc (numbers_at-append k xs ((other, n) ∷ []), eq_no other k apart, append-nil (numbers_at k xs))

module _ (sought : ℕ → Bool) (e : Expression) (entire : Bool) (number : ℕ) (texts : List Text) where
  -- the line is not matched if it is not searched
  abbrev IsPassed : ℕ → Type 0
  IsPassed k = sought k ≡ false → ¬ Matches e (get_or texts k []) entire

  -- the lines before `from` that the expression matches are noted, and no others
  pub record ColumnSoFar (from : ℕ) (old new : List (ℕ × ℕ)) : Type 0 where
    pub more : List (ℕ × ℕ)
    pub added : new ≡ old ++ more
    pub within : AreBelow (length texts) more
    pub done : (k : ℕ) → k < from → k < length texts → IsPassed k → AddsMatching (get_or texts k []) entire number (e ∷ []) (numbers_at k old) (numbers_at k new)
    pub left : (k : ℕ) → from ≤ k → numbers_at k new ≡ numbers_at k old

  pub column_none : (old : List (ℕ × ℕ)) → ColumnSoFar 0 old old
  column_none old = record {
    more = [];
    added = sym (append-nil old);
    within = All-nil (λ (pair : ℕ × ℕ). pair.0 < length texts);
    done = λ k low high passed. absurd (omega arith);
    left = λ k low. refl;
  }

  -- one more line is noted, and none before it is matched
  pub column_next : (from next : ℕ) (old mid new : List (ℕ × ℕ)) → IsNextLine e entire texts from (Some next) → new ≡ mid ++ (next, number) ∷ [] → ColumnSoFar from old mid → ColumnSoFar (next + 1) old new
  column_next from next old mid new found pushed s = record {
    more = s.more ++ (next, number) ∷ [];
    added = pushed ∙ ap (λ l. l ++ (next, number) ∷ []) s.added ∙ append_assoc old s.more ((next, number) ∷ []);
    within = All-push (λ (pair : ℕ × ℕ). pair.0 < length texts) s.more (next, number) s.within found.1;
    done = by_place;
    left = λ k low. ap (numbers_at k) pushed ∙ one_elsewhere k next number mid (λ same. let no : ⊥ = omega (arith, same, low) in no) ∙ s.left k (omega (arith, low, found.0));
  }
    where
      same_before : (k : ℕ) → (next ≡ k → ⊥) → numbers_at k new ≡ numbers_at k mid
      same_before k apart = ap (numbers_at k) pushed ∙ one_elsewhere k next number mid apart

      by_place : (k : ℕ) → k < next + 1 → k < length texts → IsPassed k → AddsMatching (get_or texts k []) entire number (e ∷ []) (numbers_at k old) (numbers_at k new)
      by_place k low high passed = by_cases (cases_lt k from) (cases_lt k next)
        where
          by_cases : (k < from) ⊎ (from ≤ k) → (k < next) ⊎ (next ≤ k) → AddsMatching (get_or texts k []) entire number (e ∷ []) (numbers_at k old) (numbers_at k new)
          by_cases (inl early) c = subst (AddsMatching (get_or texts k []) entire number (e ∷ []) (numbers_at k old)) (sym (same_before k (λ same. let no : ⊥ = omega (arith, same, early, found.0) in no))) (s.done k early high passed)
          by_cases (inr late) (inl before) =
              subst (AddsMatching (get_or texts k []) entire number (e ∷ []) (numbers_at k old)) (sym (same_before k (λ same. let no : ⊥ = omega (arith, same, before) in no) ∙ s.left k late))
              (passes_one_matching (get_or texts k []) entire number e (numbers_at k old) (found.3 k late before))
          by_cases (inr late) (inr after) =
              let here : next ≡ k = omega (arith, low, after) in
              adds_one_matching (get_or texts k []) entire number e (numbers_at k old) (numbers_at k new) (subst (λ n. Matches e (get_or texts n []) entire) here found.2)
              (ap (numbers_at k) pushed ∙ ap (λ n. numbers_at k (mid ++ (n, number) ∷ [])) here ∙ one_here k number mid ∙ ap (λ l. l ++ number ∷ []) (s.left k late))

  -- one more line is not matched
  pub column_pass : (from : ℕ) (old new : List (ℕ × ℕ)) → (from < length texts → IsPassed from → ¬ Matches e (get_or texts from []) entire) → ColumnSoFar from old new → ColumnSoFar (from + 1) old new
  column_pass from old new none s = record {
    more = s.more;
    added = s.added;
    within = s.within;
    done = λ k low high passed. elim (cases_lt k from) [
      | inl early ↦ s.done k early high passed
      | inr late ↦ (
          let here : k ≡ from = omega (arith, low, late) in
          subst (AddsMatching (get_or texts k []) entire number (e ∷ []) (numbers_at k old)) (sym (s.left k late)) (passes_one_matching (get_or texts k []) entire number e (numbers_at k old) (subst (λ n. n < length texts → IsPassed n → ¬ Matches e (get_or texts n []) entire) (sym here) none high passed)))
    ];
    left = λ k low. s.left k (omega (arith, low));
  }

  -- no line is left that the expression matches
  pub column_done : (from : ℕ) (old new : List (ℕ × ℕ)) → ((k : ℕ) → from ≤ k → k < length texts → IsPassed k → ¬ Matches e (get_or texts k []) entire) → ColumnSoFar from old new → AddsColumn sought texts entire number (e ∷ []) old new
  column_done from old new none s = record { more = s.more; added = s.added; within = s.within; numbers = λ k high passed. by_cases k high (λ off m. passed off (Any-first (λ e. Matches e (get_or texts k []) entire) e [] m)) (cases_lt k from) }
    where
      by_cases : (k : ℕ) → k < length texts → IsPassed k → (k < from) ⊎ (from ≤ k) → AddsMatching (get_or texts k []) entire number (e ∷ []) (numbers_at k old) (numbers_at k new)
      by_cases k high passed (inl early) = s.done k early high passed
      by_cases k high passed (inr late) = rw (s.left k late) (passes_one_matching _ _ _ e _ (none k late high passed))

-- ---- several expressions

module _ (sought : ℕ → Bool) (texts : List Text) (entire : Bool) where
  -- no expression
  pub columns_none : (first : ℕ) (old : List (ℕ × ℕ)) → AddsColumn sought texts entire first [] old old
  columns_none first old = record {
    more = [];
    added = sym (append-nil old);
    within = All-nil (λ (pair : ℕ × ℕ). pair.0 < length texts);
    numbers = λ k high passed. adds_none_matching (get_or texts k []) entire first (numbers_at k old);
  }

  -- the next expression, whose number is its place
  pub columns_next : (first number : ℕ) (es : List Expression) (e : Expression) {mid new : List (ℕ × ℕ)} (old : List (ℕ × ℕ)) → first ≤ number → number < length es → take (number + 1) es ≡ take number es ++ e ∷ [] → AddsColumn sought texts entire first (drop first (take number es)) old mid → AddsColumn sought texts entire number (e ∷ []) mid new
      → AddsColumn sought texts entire first (drop first (take (number + 1) es)) old new
  columns_next first number es e old low high next a b = record {
    more = a.more ++ b.more;
    added = cc (b.added, a.added, append_assoc old a.more b.more);
    within = All-append (λ (pair : ℕ × ℕ). pair.0 < length texts) a.more b.more a.within b.within;
    numbers = λ k in_texts passed.
        let P : Expression → Type 0 = λ x. Matches x (get_or texts k []) entire in
        let none : sought k ≡ false → ¬ Any P (before ++ e ∷ []) = λ off some. passed off (rw both some) in
        adds_more_matching _ _ _ _ _ place both (a.numbers k in_texts (λ off some. none off (Any-left P before (e ∷ []) some))) (b.numbers k in_texts (λ off some. none off (Any-right P before (e ∷ []) some)));
  }
    where
      before : List Expression
      before = drop first (take number es)

      many : length (take number es) ≡ number
      many = omega (arith, length-take number es)

      place : number ≡ first + length before
      place = omega (arith, length-drop first (take number es), many)

      both : drop first (take (number + 1) es) ≡ before ++ e ∷ []
      both = cc (drop-append-le first (take number es) (e ∷ []) (omega (arith, many)))

  -- none but these lines are searched, or all are
  pub column_of : (only : ℕ → Bool) (first : ℕ) (es : List Expression) (old new : List (ℕ × ℕ)) → ((k : ℕ) → only k ≡ false → sought k ≡ false) → AddsColumn only texts entire first es old new → AddsColumn sought texts entire first es old new
  column_of only first es old new less a = record { more = a.more; added = a.added; within = a.within; numbers = λ k high passed. a.numbers k high (λ off. passed (less k off)) }
