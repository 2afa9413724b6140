-- What is found in the lines of a chunk after a change, from what is found in each line.
use Rattle.{grep_session.proofs.{Prelude.{◌≡◌, ℕ, ◌+◌, ◌-◌, ◌*◌, ◌<◌, ◌≤◌, ◌==◌, Bool, true, false, not, ◌||◌, Any, MatchBool, Decides, take, drop, Matches, StaysSame, Chosen, IsSought, IsParted, is_parted, is_sought, had_gone, has_own, came, marked_cost, pairs_cost, parting, if◌then◌else◌, List, [], ◌∷◌, ◌++◌, All, inl, inr, length, map, get_or, refl, sym, ap, subst, ◌∙◌, arith, append_assoc, length-append, append-nil, false≢true, nat_eq, nat_tests, length-map, nil_from_length, get_or_default, take-append_seam, drop-append_seam, All-append, All-tail, Text, Expression, Span, AddsAtMost, Steps, Options, FoundIn, finds_at, is_paired, numbers_at, Matched, AreBelow, KeptLine, no_line, line_text, seen, Change, HasChanged, SearchesEach, AreAllParts, AreMatches, has_new_parts, left_numbers, AddsMatching, IsKept}, lemmas.{NumberLemmas.some_decides, MarkedLemmas.{marked_lines, pairs_times}, StepLemmas.not_searched, ChangeLemmas.{line_right, numbers_right, parts_decides, went_decides}}}, std.{specs.Bool.⊤, proofs.{Math.ListN.get_or-map, lemmas.Bool.{cases_Bool, Decides.Decides-and}}}, re_meter.proofs.lemmas.Adding.{adds_both, adds_within}, grep_core.proofs.lemmas.Verdicts.decided_yes, line_chunks.proofs.lemmas.{PairLaws.lt_yes, SeenLaws.{length-seen, line_seen}}}

-- what holds of each text with what was found in it holds of all lines
all_seen : (P : KeptLine → Type 0) (texts : List Text) (found : FoundIn) → ((k : ℕ) → k < length texts → P (record { text = get_or texts k []; found = finds_at found k })) → All P (seen texts found)
all_seen P texts found each = λ k d h.
    let inside : k < length texts = omega (arith, length-seen 0 texts found) in
    let place : 0 + k ≡ k = omega arith in
    let line = get_or_default (seen texts found) k d no_line h ∙ line_seen 0 texts found k inside in
    rw line (rw place (each k inside))

-- no number is left if none is counted
no_numbers : (ns : List ℕ) → not (length ns == 0) ≡ false → ns ≡ []
no_numbers [] h = refl
no_numbers (n ∷ ns) h = absurd (grind (arith, nat_tests, h))

-- a line has no number that no pair has
none_own : (first count k : ℕ) (pairs : List (ℕ × ℕ)) → All (λ (pair : ℕ × ℕ). pair.1 < first) pairs → has_own first count (numbers_at k pairs) ≡ false
none_own first count k [] all = refl
none_own first count k (pair ∷ pairs) all =
    let more = none_own first count k pairs (All-tail (λ (pair : ℕ × ℕ). pair.1 < first) pair pairs all) in
    elim (cases_Bool (nat_eq pair.0 k)) [
      | inl here ↦ rw (here, lt_yes pair.1 first (all 0 pair (omega arith))) more
      | inr other ↦ rw other more
    ]

module _ {change : Change} {es : List Expression} {options : Options} (h : HasChanged change es options) where
  -- the expressions that came are those with their numbers
  came_are : came change es ≡ h.come
  came_are =
      let joined = h.new ∙ sym (append_assoc h.front h.come h.back) in
      let past : change.first + change.come ≡ length (h.front ++ h.come) = omega (arith, length-append h.front h.come) in
      (λ i. drop (h.at i) (take (past i) (joined i))) ∙ ap (drop (length h.front)) (take-append_seam (h.front ++ h.come) h.back) ∙ drop-append_seam h.front h.come

  module _ (lines : List KeptLine) (old : List (ℕ × ℕ)) (all : All (IsKept h.before h.was) lines) (own : (k : ℕ) → k < length lines → numbers_at k old ≡ (get_or lines k no_line).found.numbers) where
    abbrev texts : List Text
    texts = map line_text lines

    module _ (k : ℕ) (high : k < length texts) where
      abbrev line : KeptLine
      line = get_or lines k no_line

      inside : k < length lines
      inside = omega (arith, length-map lines line_text)

      is_text : line_text line ≡ get_or texts k []
      is_text = sym (get_or-map line_text lines k no_line)

      kept : IsKept h.before h.was line
      kept = all k no_line inside

      -- whether one that went matched it
      had_decides : options ≡ h.was → Decides (had_gone change old k) (Matched h.gone options (get_or texts k []))
      had_decides same = subst (λ t. Decides (had_gone change old k) (Matched h.gone options t)) is_text (subst (λ ns. Decides (has_own change.first change.gone ns) (Matched h.gone options line.text)) (sym (own k inside)) (went_decides h line kept same))

      -- whether it is searched
      sought_decides : Decides (is_sought change old k) (IsSought change h.gone options (get_or texts k []))
      sought_decides = by_flag change.narrower refl
        where
          by_flag : (narrower : Bool) → change.narrower ≡ narrower → Decides (if narrower then had_gone change old k else true) (MatchBool narrower (Matched h.gone options (get_or texts k [])) ⊤)
          by_flag true is = had_decides (h.narrows is).0
          by_flag false is = decided_yes tt

      -- if it is not, none that came matches it
      none_passed : is_sought change old k ≡ false → Any (λ e. Matches e (get_or texts k []) options.line_regexp) h.come → ⊥
      none_passed = by_flag change.narrower refl
        where
          by_flag : (narrower : Bool) → change.narrower ≡ narrower → (if narrower then had_gone change old k else true) ≡ false → Any (λ e. Matches e (get_or texts k []) options.line_regexp) h.come → ⊥
          by_flag true is off some = false≢true (sym off ∙ (had_decides (h.narrows is).0).1 ((h.narrows is).1 (get_or texts k []) some))
          by_flag false is off some = false≢true (sym off)

    module _ (new : List (ℕ × ℕ)) (m : AreMatches change texts options.line_regexp es old new) where
      -- the numbers of those that came were added to those that are left
      adds_at : (k : ℕ) (high : k < length texts) → AddsMatching (line k high).text options.line_regexp change.first h.come (left_numbers change.first change.gone (change.gone - change.come) (line k high).found.numbers) (numbers_at k new)
      adds_at k high =
          let less = change.gone - change.come in
          let left = m.are_left.numbers k ∙ ap (left_numbers change.first change.gone less) (own k (inside k high)) in
          rw (is_text k high) (rw left at
          (rw came_are at (m.adds.numbers k high (λ off some. none_passed k high off (rw came_are at some)))))

      -- whether their parts are searched anew is known
      column_decides : (k : ℕ) → k < length texts → Decides (is_parted change old new k) (IsParted change h.gone options h.come es (get_or texts k []))
      column_decides k high =
          let one = line k high in
          let d = rw (← own k (inside k high)) at (parts_decides h one (kept k high) (numbers_at k new) (adds_at k high)) in
          let some = some_decides one.text options.line_regexp 0 es (numbers_at k new) (numbers_right h one (kept k high) (numbers_at k new) (adds_at k high)) in
          rw (is_text k high) at (Decides-and (is_paired k new) (has_new_parts change (numbers_at k old) (numbers_at k new)) some d)

      -- what is found in each is right
      pub column_right : (parts : List (List Span)) → AreAllParts change es options lines old new parts → All (IsKept es options) (seen texts (record { size = length lines; pairs = new; parts = parts }))
      column_right parts are = all_seen (IsKept es options) _ _ (λ k high.
          let one = line k high in
          let same : has_new_parts change (numbers_at k old) (numbers_at k new) ≡ has_new_parts change one.found.numbers (numbers_at k new) = rw (own k (inside k high)) in
          rw (is_text k high) at
          (line_right h _ (kept k high) _ (adds_at k high) _ _ _ (no_numbers (numbers_at k new)) (λ off. sym same ∙ off) (are k (inside k high))))

      -- what was found stays right where no pair went, moved or came
      pub column_same : StaysSame change old new → All (IsKept es options) lines
      column_same s = λ k d low.
          let high : k < length texts = omega (arith, low, length-map lines line_text) in
          let one = line k high in
          let numbers : numbers_at k new ≡ one.found.numbers = ap (numbers_at k) same ∙ own k low in
          let none : (count : ℕ) (ns : List ℕ) → ns ≡ numbers_at k old → has_own change.first count ns ≡ false = λ count ns is. ap (has_own change.first count) is ∙ none_own change.first count k old s.earlier in
          let off : has_new_parts change one.found.numbers (numbers_at k new) ≡ false = (λ i. s.some i || (none change.gone one.found.numbers (sym (own k low)) i || none change.come (numbers_at k new) (ap (numbers_at k) same) i)) in
          let right = line_right h one (kept k high) (numbers_at k new) (adds_at k high) true false one.found.spans (λ e. absurd (false≢true (sym e))) (λ e. off) (λ asked. refl) in
          subst (IsKept es options) {x = record { text = one.text; found = record { numbers = numbers_at k new; spans = one.found.spans } }} (ap (λ ns. record { text = one.text; found = record { numbers = ns; spans = one.found.spans } }) numbers ∙ get_or_default lines k no_line d low) right
        where
          same : new ≡ old
          same =
              let left = m.are_left.same s.earlier in
              let more = m.adds.more in
              let whole : new ≡ old ++ more = m.adds.added ∙ ap (λ l. l ++ more) left in
              let nothing : more ≡ [] = nil_from_length more (omega (arith, s.as_many, ap length whole, length-append old more)) in
              whole ∙ ap (λ l. old ++ l) nothing ∙ append-nil old

    -- ---- steps

    module _ (begun mid : Steps) (few : AddsAtMost (change.come * marked_cost (is_sought change old) 1 texts (length lines)) begun mid) where
      -- the lines that were searched
      searched : (paired : List Text) × Chosen (IsSought change h.gone options) texts paired × AddsAtMost (pairs_cost change.come paired) begun mid
      searched =
          let s = marked_lines (is_sought change old) 1 texts (IsSought change h.gone options) sought_decides (length lines) (length-map lines line_text) in
          (s.0, s.1, rw (ap (λ n. change.come * n) s.2 ∙ pairs_times change.come s.0) at few)

      -- before the search for parts
      pub chunk_begun : SearchesEach change h.gone h.come es options texts begun mid
      chunk_begun =
          let rest = not_searched change h.gone h.come es options texts mid in
          let least : pairs_cost change.come searched.0 ≤ pairs_cost change.come searched.0 + pairs_cost (parting es options) rest.parted = omega arith in
          record { paired = searched.0; are_paired = searched.1; parted = rest.parted; are_parted = rest.are_parted; few = adds_within _ _ _ _ begun mid least least searched.2 }

      -- and after it
      pub chunk_steps : (new : List (ℕ × ℕ)) (ended : Steps) → AreMatches change texts options.line_regexp es old new → AddsAtMost (marked_cost (is_parted change old new) (parting es options) texts (length lines)) mid ended → SearchesEach change h.gone h.come es options texts begun ended
      chunk_steps new ended m more =
          let t = marked_lines (is_parted change old new) (parting es options) texts (IsParted change h.gone options h.come es) (column_decides new m) (length lines) (length-map lines line_text) in
          record { paired = searched.0; are_paired = searched.1; parted = t.0; are_parted = t.1; few = adds_both _ _ _ _ begun mid ended searched.2 (rw t.2 at more) }

-- the pairs of a chunk after a change are of its lines
pub matches_below : (change : Change) (texts : List Text) (entire : Bool) (es : List Expression) (old new : List (ℕ × ℕ)) → AreMatches change texts entire es old new → AreBelow (length texts) new
matches_below change texts entire es old new m = rw m.adds.added (All-append (λ (pair : ℕ × ℕ). pair.0 < length texts) m.left m.adds.more m.are_left.within m.adds.within)
