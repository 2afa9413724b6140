-- What a choice of fixed strings matches: the lines that have one of them, as strings are compared.
use Rattle.{re_match.{proofs.{Prelude.{◌≡◌, ◌↔◌, ℕ, ◌+◌, ◌-◌, ◌<◌, ◌≤◌, inl, inr, Bool, true, false, IsTrue, List, [], ◌∷◌, ◌++◌, length, map, take, drop, Option, Some, None, refl, sym, ap, ◌∙◌, arith, length-append, length-drop, is_some, Text, alt, byte, sequence, Holds, Matches, IsFound, Span, IsString, Occurs, IsBestOccurrence, EndsFirst, Literals, any_literal, key, keys, FindsPart, drop-append-le, take-append-drop, length-take-le, length-map, drop_of_length-le, cases_lt, false≢true}, lemmas.SetFolded.choice_keys}, specs.Working.Literals.keyed}, re_trees.proofs.lemmas.{Decisions.{Any-first, Any-later, Any-cases, Any-none}, FixedStrings.{stands-holds, holds-stands}, HoldsDecided.Holds-le, SomeOfJoined.Any-single}, re_strings.proofs.lemmas.{SetBranches.begins_take, SetSearch.all_read}}

-- the bytes between two places are what follows the first, up to what follows the second
stretch : (line : Text) (i j : ℕ) → i ≤ j → j ≤ length line → drop i line ≡ drop i (take j line) ++ drop j line
stretch line i j le within =
    let read = length-take-le j line within in
    ap (drop i) (sym (take-append-drop j line)) ∙ drop-append-le i (take j line) (drop j line) (omega arith)

stretch_length : (line : Text) (i j : ℕ) → j ≤ length line → length (drop i (take j line)) ≡ j - i
stretch_length line i j within = cc (length-drop i (take j line), length-take-le j line within)

-- a text from i to j is the bytes between them
pub text_between : (line t : Text) (i j : ℕ) → i ≤ j → j ≤ length line → drop i line ≡ t ++ drop j line → t ≡ drop i (take j line)
text_between line t i j le within e =
    let lengths : length (drop i line) ≡ length t + length (drop j line) = cc (length-append t (drop j line)) in
    let size : length t ≡ length (drop i (take j line)) = omega (arith, length-drop i line, length-drop j line, stretch_length line i j within) in
    sym (begins_take t (drop j line)) ∙ ap (take (length t)) (sym e ∙ stretch line i j le within) ∙ ap (λ n. take n (drop i (take j line) ++ drop j line)) size ∙ begins_take (drop i (take j line)) (drop j line)

module _ (line : Text) (i j : ℕ) where
  -- where the choice holds there is a string
  pub choice_stands : (texts : List Text) → i ≤ j → j ≤ length line → Holds line (alt (map (λ text. sequence (map byte text)) texts)) i j → IsString texts (drop i (take j line))
  choice_stands [] le within h = absurd h
  choice_stands (t ∷ texts) le within (inl h) = Any-first (λ s. s ≡ drop i (take j line)) t texts (text_between line t i j le within (holds-stands line t i j h))
  choice_stands (t ∷ texts) le within (inr h) = Any-later (λ s. s ≡ drop i (take j line)) t texts (choice_stands texts le within h)

  -- and where there is a string it holds
  pub stands_choice : (texts : List Text) → i ≤ j → j ≤ length line → IsString texts (drop i (take j line)) → Holds line (alt (map (λ text. sequence (map byte text)) texts)) i j
  stands_choice [] le within s = absurd (Any-none (λ s. s ≡ drop i (take j line)) s)
  stands_choice (t ∷ texts) le within s =
      elim (Any-cases (λ s. s ≡ drop i (take j line)) t texts s) [
        | inl here ↦
            let end : i + length t ≡ j = omega (arith, ap length here, stretch_length line i j within) in
            inl (rw end at (stands-holds line t i (drop j line) (cc (stretch line i j le within))))
        | inr rest ↦ inr ((stands_choice texts le within) rest)
      ]

-- there is nothing between a place and itself
nothing_between : (line : Text) (i j : ℕ) → j ≤ i → j ≤ length line → drop i (take j line) ≡ []
nothing_between line i j le within = drop_of_length-le (take j line) (let r = length-take-le j line within in omega arith)

module _ (l : Literals) (line : Text) where
  -- the line is as long as it is compared
  size : length (keys l.fold line) ≡ length line
  size = length-map line (key l.fold)

  -- where the choice holds there is a string in the line as it is compared
  pub any_stands : (i j : ℕ) → i ≤ j → j ≤ length line → Holds line (any_literal l) i j → IsString (keyed l) (drop i (take j (keys l.fold line)))
  any_stands i j le within h = choice_stands _ i j _ le (omega (arith, size)) ((choice_keys _ _ _ i j).0 h)

  pub stands_any : (i j : ℕ) → i ≤ j → j ≤ length line → IsString (keyed l) (drop i (take j (keys l.fold line))) → Holds line (any_literal l) i j
  stands_any i j le within s = (choice_keys _ _ _ i j).1 (stands_choice _ i j _ le (omega (arith, size)) s)

  -- where the empty string is one of them each line is matched
  pub empty_matches : IsString (keyed l) [] → Matches (any_literal l) line false
  empty_matches s = (0, 0, omega arith, stands_any 0 0 (omega arith) (omega arith) (rw (nothing_between (keys l.fold line) 0 0 (omega arith) (omega arith)) s))

  -- where it is not, the line is matched if it has a string
  pub occurs_decides : {r : Bool} → (IsString (keyed l) [] → ⊥) → IsTrue r ↔ ((i j : ℕ) × Occurs (keyed l) 0 (keys l.fold line) i j) → IsTrue r ↔ Matches (any_literal l) line false
  occurs_decides none reported = (
    λ h.
        let (i, j, o) = reported.0 h in let within : j ≤ length line = omega (arith, size) in
        (i, j, within, stands_any i j (omega arith) within o.3),
    λ (i, j, within, h). reported.1 (elim (cases_lt i j) [
      | inl some ↦ (i, j, (omega arith, some, omega (arith, size), any_stands i j (omega arith) within h))
      | inr empty ↦ absurd (none (rw (nothing_between (keys l.fold line) i j empty (omega (arith, size))) at (any_stands i j (Holds-le line (any_literal l) i j h) within h)))
    ]),
  )

  -- the line is matched as a whole where it is one of them
  pub line_decides : {r : Bool} → IsTrue r ↔ IsString (keyed l) (keys l.fold line) → IsTrue r ↔ Matches (any_literal l) line true
  line_decides reported =
      let whole = all_read (keys l.fold line) (length line) (omega (arith, size)) in (
        (λ h. stands_any 0 (length line) (omega arith) (omega arith) (rw whole (reported.0 h))),
        (λ m. reported.1 (rw whole at (any_stands 0 _ (omega arith) (omega arith) m))),
      )

  -- the place where one ends first says so
  pub ends_decide : (end : Option ℕ) → (IsString (keyed l) [] → ⊥) → EndsFirst (keyed l) (keys l.fold line) end → IsTrue (is_some end) ↔ Matches (any_literal l) line false
  ends_decide None none free = occurs_decides none ((λ h. absurd (false≢true h)), (λ (i, j, o). absurd (free i j o)))
  ends_decide (Some k) none ((i, o), first) = occurs_decides none ((λ _. (i, k, o)), (λ _. refl))

  -- a stretch that is found is a string
  occurs_there : {from i j : ℕ} → IsFound (any_literal l ∷ []) line false from i j → Occurs (keyed l) from (keys l.fold line) i j
  occurs_there {from} {i} {j} f = (f.begins, f.not_empty, omega (arith, size), any_stands i j (omega arith) f.on_line (Any-single (λ e. Holds line e i j) (any_literal l) f.holds))

  -- and a string is found
  found_there : (from i j : ℕ) → Occurs (keyed l) from (keys l.fold line) i j → IsFound (any_literal l ∷ []) line false from i j
  found_there from i j o =
      let within : j ≤ length line = omega (arith, size) in
      record { begins = o.0; not_empty = o.1; on_line = within; is_whole = tt; holds = Any-first (λ e. Holds line e i j) (any_literal l) [] (stands_any i j (omega arith) within o.3) }

  -- the strings of the line are the stretches found
  pub strings_found : (start i m : ℕ) → i < length line → ((j : ℕ) × (m < start + j) × Occurs (keyed l) 0 (keys l.fold line) i j) ↔ ((j : ℕ) × (m < start + j) × IsFound (any_literal l ∷ []) line false 0 i j)
  strings_found start i m lt = (λ (j, past, o). (j, past, found_there 0 i j o), λ (j, past, f). (j, past, occurs_there f))

  -- the best of the strings in the line is the part
  pub best_is_part : (from : ℕ) (best : Option Span) → IsBestOccurrence (keyed l) from (keys l.fold line) (length line) best → FindsPart (any_literal l ∷ []) line false from best
  unfolding IsBestOccurrence
  best_is_part from best b = go best b
    where
      go : (best : Option Span) → IsBestOccurrence (keyed l) from (keys l.fold line) (length line) best → FindsPart (any_literal l ∷ []) line false from best
      go None none = λ i j f. none i j f.on_line (occurs_there f)
      go (Some span) (o, within, early, long) = record { found = found_there _ _ _ o; earliest = λ k m f. early k m f.on_line (occurs_there f); longest = λ m f. long m f.on_line (occurs_there f) }
