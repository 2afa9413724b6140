-- One matcher more of a list: what is known of those that were asked, before it was and afterwards.
use Rattle.{re_search.proofs.Prelude.{◌≡◌, ℕ, ◌+◌, ◌*◌, ◌<◌, ◌≤◌, Bool, inl, inr, List, [], ◌∷◌, ◌++◌, length, map, take, get_or, sym, ap, ◌∙◌, arith, add-one, set, take-suc, take_all, map-set_same, get_or-map, length-map, Text, Expression, Matches, SomeMatches, Matcher, AreAlike, AreSame, expressions_of, matched_expression, subst, wants_whole}, re_auto.specs.{Meters.Steps, Searches.AddsAtMost}, re_match.proofs.lemmas.StepSums.adds_on, re_syntax.proofs.lemmas.SomeOfJoined.{Any-append-cases, Any-single}}

-- two lists whose elements look the same to f one by one, and the element of the second at place i
module _ {A B : Type 0} (f : A → B) (old now : List A) (same : map f now ≡ map f old) (i : ℕ) (d : A) where
  -- they do so still where that element is replaced by one that looks the same
  pub same_after : (n : A) → f n ≡ f (get_or now i d) → map f (set now i n) ≡ map f old
  same_after n e = map-set_same f now i n d e ∙ same

  -- the place is one of each of the lists
  pub within : i < length old → (i < length now) × (i < length (map f old))
  within h = let lengths : length (map f now) ≡ length (map f old) = ap length same in (omega (arith, length-map now f, length-map old f), omega (arith, length-map old f))

  -- what f makes of the first list's element there
  pub value_at : i < length old → (b : B) → get_or (map f old) i b ≡ f (get_or now i d)
  value_at h b = ap (λ xs. get_or xs i b) (sym same) ∙ get_or-map f now i d b (within h).0

  -- what f makes of the elements up to that place and of the one there
  pub one_more : i < length old → take (i + 1) (map f old) ≡ take i (map f old) ++ f (get_or now i d) ∷ []
  one_more h =
      let value = f (get_or now i d) in
      ap (λ n. take n (map f old)) (add-one i) ∙ take-suc (map f old) i value (within h).1 ∙ ap (λ v. take i (map f old) ++ v ∷ []) (value_at h value)

module _ {whole : Bool} {old now : List Matcher} (same : AreSame old now) (alike : AreAlike whole old) (line : Text) (i : ℕ) (d : Matcher) (h : i < length old) where
  abbrev e : Expression
  e = matched_expression (get_or now i d)

  -- the matcher at place i answers as all do to whether the whole line has to be matched
  answer : wants_whole (get_or now i d) ≡ whole
  answer = sym (value_at wants_whole old now same.same_wholes i d h (wants_whole (get_or now i d))) ∙ alike i (wants_whole (get_or now i d)) (within wants_whole old now same.same_wholes i d h).1

  -- where one matcher more does not match
  pub none_more : ¬ SomeMatches (take i (expressions_of old)) line whole → ¬ Matches e line (wants_whole (get_or now i d)) → ¬ SomeMatches (take (i + 1) (expressions_of old)) line whole
  none_more none not some = elim (Any-append-cases (λ x. Matches x line whole) (take i (expressions_of old)) (e ∷ []) (rw (← one_more matched_expression old now same.same_expressions i d h) some)) [
    | inl a ↦ none a
    | inr b ↦ not (subst (Matches e line) (sym answer) (Any-single (λ x. Matches x line whole) e b))
  ]

  -- where one matcher matches some do
  pub one_matches : Matches e line (wants_whole (get_or now i d)) → SomeMatches (expressions_of old) line whole
  one_matches m = (i, e, (within matched_expression old now same.same_expressions i d h).1, value_at matched_expression old now same.same_expressions i d h e, subst (Matches e line) answer m)

-- all were asked
pub all_asked : (ms : List Matcher) (i : ℕ) → length ms ≤ i → take i (expressions_of ms) ≡ expressions_of ms
all_asked ms i le = take_all i (expressions_of ms) (omega (arith, le, length-map ms matched_expression))

-- the steps of one search more
pub steps_more : (i n : ℕ) (old middle new : Steps) → AddsAtMost (i * n) old middle → AddsAtMost n middle new → AddsAtMost ((i + 1) * n) old new
steps_more i n old middle new a b = adds_on a b (omega arith) (omega arith)
