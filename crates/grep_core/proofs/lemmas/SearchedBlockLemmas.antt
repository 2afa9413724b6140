-- The lines of a block up to the first that is matched, and the rows of several lines.
use Rattle.{grep_core.proofs.{Prelude.{AreUnselected, Bor, MatchOption, Option, None, Some, ◌≡◌, ◌⊎◌, ℕ, nat_eq, ◌+◌, ◌-◌, ◌*◌, ◌<◌, ◌≤◌, ◌&&◌, ◌||◌, IsTrue, not, inr, Bool, true, false, Decides, append-nil, List, [], ◌∷◌, ◌++◌, All, length, take, drop, slice_range, refl, sym, ap, ◌∙◌, subst, arith, append_assoc, inl, length-append, if◌then◌else◌, is_some, Text, Expression, newline, terminated, lines_of, HasNoNewline, Span, IsBlock, IsNext, Sought, IsSought, Options, Selected, colon, head, lines, form, shown_number, written, IsBare, rows_selected, RowsOfSelected, RowsOfLine, RowsOfLines, name_shown, IsDivided, SearchedBlock, false≢true, cases_lt, take-append_seam, drop-append_seam, nil_from_length, All-cons, All-nil, All-head, All-tail}, lemmas.Verdicts.{decided_yes, decided_no}}, re_syntax.proofs.lemmas.LinesLaws.{lines_of-terminated, terminated-append}, re_search.{proofs.lemmas.NextLines.{block_lines, free_lines}, specs.{Meters.Steps, Searches.AddsAtMost}}}

-- ---- where the lines lie

-- there are no more lines than bytes
pub lines_within : (ls : List Text) → length ls ≤ length (terminated ls)
lines_within [] = omega arith
lines_within (l ∷ ls) = omega (arith, length-append l (newline ∷ terminated ls), lines_within ls)

-- one line more has one byte more than its own
pub bytes_with : (ls : List Text) (l : Text) → length (terminated (ls ++ l ∷ [])) ≡ length (terminated ls) + (length l + 1)
bytes_with ls l = ap length (terminated-append ls (l ∷ [])) ∙ length-append (terminated ls) (l ++ newline ∷ []) ∙ ap (λ n. length (terminated ls) + n) (length-append l (newline ∷ []))

-- the lines before the last of some have no newline
pub free_before : (xs ys : List Text) → All HasNoNewline (xs ++ ys) → All HasNoNewline xs
free_before [] _ h = All-nil HasNoNewline
free_before (x ∷ xs) ys h = All-cons HasNoNewline x xs (All-head HasNoNewline x (xs ++ ys) h) (free_before xs ys (All-tail HasNoNewline x (xs ++ ys) h))

module _ (P : Text → Type 0) (block : Text) (place : Span) (whole : IsBlock block) (n : IsNext P (lines_of block) place) where
  -- the block is the lines before the next one, that line, and those after it
  bytes_are : block ≡ terminated n.before ++ (n.line ++ newline ∷ terminated n.after)
  bytes_are = block_lines block whole ∙ ap terminated n.divided ∙ terminated-append n.before (n.line ∷ n.after)

  -- up to that line, with it
  pub first_bytes : block ≡ terminated (n.before ++ n.line ∷ []) ++ terminated n.after
  first_bytes =
      block_lines block whole ∙ ap terminated (n.divided ∙ sym (append_assoc n.before (n.line ∷ []) n.after)) ∙ terminated-append (n.before ++ n.line ∷ []) n.after

  pub before_bytes : take place.start block ≡ terminated n.before
  before_bytes = ap (λ k. take k block) n.starts ∙ ap (take (length (terminated n.before))) bytes_are ∙ take-append_seam (terminated n.before) (n.line ++ newline ∷ terminated n.after)

  -- from that line on
  from_line : drop place.start block ≡ n.line ++ newline ∷ terminated n.after
  from_line = ap (λ k. drop k block) n.starts ∙ ap (drop (length (terminated n.before))) bytes_are ∙ drop-append_seam (terminated n.before) (n.line ++ newline ∷ terminated n.after)

  pub line_with_newline : drop place.start block ≡ (n.line ++ newline ∷ []) ++ terminated n.after
  line_with_newline = from_line ∙ sym (append_assoc n.line (newline ∷ []) (terminated n.after))

  pub line_bytes : slice_range block place.start place.end ≡ n.line
  line_bytes =
      let long : place.end - place.start ≡ length n.line = omega (arith, n.ends) in
      ap (λ k. take k (drop place.start block)) long ∙ ap (take (length n.line)) from_line ∙ take-append_seam n.line (newline ∷ terminated n.after)

  pub end_bytes : place.end + 1 ≡ length (terminated (n.before ++ n.line ∷ []))
  end_bytes = omega (arith, n.ends, n.starts, bytes_with n.before n.line)

  pub free_up_to : All HasNoNewline (n.before ++ n.line ∷ [])
  free_up_to = free_before _ _ (rw (n.divided ∙ sym (append_assoc n.before (n.line ∷ []) n.after)) at (free_lines block whole))

-- ---- what is written for them

module _ (es : List Expression) (options : Options) (many : Bool) (name : Text) where
  -- lines that are not selected have no rows
  pub rows_unselected : (number : ℕ) (ls : List Text) → AreUnselected es options ls → RowsOfLines es options many name number ls [] 0
  rows_unselected _ [] none = (refl, refl)
  rows_unselected number (l ∷ ls) none =
      let out = All-head (λ line. ¬ Selected es options line) l ls none in
      ([], [], false, 0, inr (out, refl), decided_no out, rows_unselected (number + 1) ls (All-tail (λ line. ¬ Selected es options line) l ls none), refl, refl)

  -- one line more
  pub rows_one_more : (number : ℕ) (ls : List Text) (line : Text) (rows own : List Text) (found : ℕ) {selected : Bool} → RowsOfLines es options many name number ls rows found → RowsOfLine es options many name (number + length ls) line own → Decides selected (Selected es options line)
      → RowsOfLines es options many name number (ls ++ line ∷ []) (rows ++ own) (if selected then found + 1 else found)
  rows_one_more number [] line rows own found {selected} (none, zero) one reported =
      let at : number + 0 ≡ number = omega arith in
      let counted = ap (λ n. if selected then n + 1 else n) zero in
      (own, [], selected, 0, subst (λ n. RowsOfLine es options many name n line own) at one, reported, (refl, refl), ap (λ r. r ++ own) none ∙ sym (append-nil own), counted)
  rows_one_more number (l ∷ ls) line rows own found {selected} (first, rest, b, others, is_first, reported_too, are_rest, joined, counted) one reported =
      let at : number + length (l ∷ ls) ≡ number + 1 + length ls = omega arith in
      let later = rows_one_more (number + 1) ls line rest own others are_rest (subst (λ n. RowsOfLine es options many name n line own) at one) reported in
      (first, rest ++ own, b, (if selected then others + 1 else others), is_first, reported_too, later, ap (λ r. r ++ own) joined ∙ append_assoc first rest own, both b selected counted)
    where
      both : (b s : Bool) → found ≡ (if b then others + 1 else others) → (if s then found + 1 else found) ≡ (if b then (if s then others + 1 else others) + 1 else (if s then others + 1 else others))
      both true true e = omega (arith, e)
      both true false e = e
      both false true e = omega (arith, e)
      both false false e = e

  -- where each selected line is a row, and nothing else
  pub rows_numbered : form options ≡ lines → (number : ℕ) (ls : List Text) → All (Selected es options) ls → RowsOfLines es options many name number ls (rows_selected options many name number ls) (length ls)
  rows_numbered _ _ [] _ = (refl, refl)
  rows_numbered asked number (l ∷ ls) all =
      let own = (head colon (name_shown many name) (shown_number options number) ++ l) ∷ [] in
      let are : RowsOfSelected es options many (form options) name number l own = rw asked refl in
      let selected = All-head (Selected es options) l ls all in
      (own, rows_selected options many name (number + 1) ls, true, length ls, inl (selected, are), decided_yes selected, rows_numbered asked (number + 1) ls (All-tail (Selected es options) l ls all), refl, (let long : length (l ∷ ls) ≡ length ls + 1 = omega arith in long))

  -- no more lines are selected than there are
  pub found_within : (number : ℕ) (ls rows : List Text) (found : ℕ) → RowsOfLines es options many name number ls rows found → found ≤ length ls
  found_within number [] rows found (none, zero) = omega (arith, zero)
  found_within number (l ∷ ls) rows found (own, later, b, others, is, reported_too, are, joined, counted) = at_most b counted (found_within (number + 1) ls later others are)
    where
      at_most : (b : Bool) → found ≡ (if b then others + 1 else others) → others ≤ length ls → found ≤ length (l ∷ ls)
      at_most true e few = omega (arith, e, few)
      at_most false e few = omega (arith, e, few)

  -- the lines of a stretch before one that is selected have no rows, and that line has its own
  pub rows_matched : (number : ℕ) (before : List Text) (line : Text) (own : List Text) → AreUnselected es options before → Selected es options line → (at : ℕ) → at ≡ number + length before → RowsOfSelected es options many (form options) name at line own
      → RowsOfLines es options many name number (before ++ line ∷ []) own 1
  rows_matched number before line own none selected at is are =
      rows_one_more _ _ _ [] _ 0 (rows_unselected number before none) (rw (← is) (inl (selected, are))) (decided_yes selected)

  -- under `-v` those lines are selected, and the one after them is not
  pub rows_unmatched : (number : ℕ) (before rows : List Text) (line : Text) → RowsOfLines es options many name number before rows (length before) → ¬ Selected es options line → RowsOfLines es options many name number (before ++ line ∷ []) rows (length before)
  rows_unmatched number before rows line are out =
      rw (append-nil rows) at (rows_one_more _ _ _ _ [] _ are (inr (out, refl)) (decided_no out))

-- bare rows are the lines with their newlines
pub bare_bytes : {options : Options} {many : Bool} (name : Text) → IsBare options many → (number : ℕ) (ls : List Text) → written [] (rows_selected options many name number ls) ≡ terminated ls
bare_bytes _ _ _ [] = refl
bare_bytes {options} {many} name bare number (l ∷ ls) =
    let none : head colon (name_shown many name) (shown_number options number) ≡ [] = rw (bare.no_name, bare.no_number) refl in
    ap (λ h. ((h ++ l) ++ newline ∷ []) ++ written [] (rows_selected options many name (number + 1) ls)) none ∙ append_assoc l (newline ∷ []) (written [] (rows_selected options many name (number + 1) ls))
    ∙ ap (λ t. l ++ newline ∷ t) (bare_bytes name bare (number + 1) ls)

-- under `-v` a line is selected exactly if it is not matched, and else if it is
module _ (es : List Expression) (options : Options) where
  abbrev s : Sought
  s = record { expressions = es; whole = options.line_regexp }

  pub selected_matched : options.invert_match ≡ false → (line : Text) → IsSought s line → Selected es options line
  selected_matched plain line h = rw plain h

  pub unselected_unmatched : options.invert_match ≡ false → (ls : List Text) → All (λ line. ¬ IsSought s line) ls → AreUnselected es options ls
  unselected_unmatched plain ls none = λ k d below h. none k d below (rw plain at h)

  pub selected_unmatched : options.invert_match ≡ true → (ls : List Text) → All (λ line. ¬ IsSought s line) ls → All (Selected es options) ls
  selected_unmatched inverts ls none = λ k d below. rw inverts (λ m. none k d below m)

  pub unselected_matched : options.invert_match ≡ true → (line : Text) → IsSought s line → ¬ Selected es options line
  unselected_matched inverts line h = λ selected. (rw inverts at selected) h

-- where a stretch has lines only if lines are selected that are matched, they are
pub plain_if : (invert : Bool) (count : ℕ) → (invert ≡ true → count ≡ 0) → 1 ≤ count → invert ≡ false
plain_if true count none some = absurd (omega (arith, some, none refl))
plain_if false _ none _ = refl

-- then none of the lines before the matched one is selected
pub unselected_before : (es : List Expression) (options : Options) (count : ℕ) → (options.invert_match ≡ true → count ≡ 0) → (ls : List Text) → length ls ≤ count → All (λ line. ¬ IsSought (record { expressions = es; whole = options.line_regexp }) line) ls → AreUnselected es options ls
unselected_before es options count none ls few unsought = λ k d below.
    unselected_unmatched es options (plain_if _ _ none (omega (arith, few, below))) ls unsought k d below

-- a stretch is asked for under `-v` only where rows are bare
pub bare_if : {count : ℕ} {P : Type 0} (invert bare : Bool) → ((not invert || bare) ≡ false → count ≡ 0) → (IsTrue bare → P) → invert ≡ true → (count ≡ 0) ⊎ P
bare_if true true none is e = inr (is refl)
bare_if true false none _ e = inl (none refl)
bare_if false _ none _ e = absurd (false≢true e)

-- a stretch is divided as well for matchers that search for the same
pub divided_kept : {old new : Sought} {stretch : SearchedBlock} {before all : List Text} → new ≡ old → IsDivided old stretch before all → IsDivided new stretch before all
divided_kept same d = rw same d

-- its search took at most a step for each of its bytes and each expression, and passed no more bytes
pub stretch_spent : {s : Sought} {stretch : SearchedBlock} {before all : List Text} {es ds : List Expression} {old new : Steps} → ds ≡ es → IsDivided s stretch before all → AddsAtMost (length ds * stretch.bytes) old new → AddsAtMost (length es * length (terminated all)) old new
stretch_spent same d few = rw d.width at (rw same at few)

-- a stretch that ends with a line has one
pub line_within : {s : Sought} {stretch : SearchedBlock} {before all : List Text} → IsDivided s stretch before all → is_some stretch.line ≡ true → 1 ≤ length all
line_within {s} {stretch} {before} {all} d some = one stretch.line some d.next
  where
    one : (line : Option (Bor Text)) → is_some line ≡ true → MatchOption line (all ≡ before) (λ l. IsSought s l.now × (all ≡ before ++ l.now ∷ [])) → 1 ≤ length all
    one None none h = absurd (false≢true none)
    one (Some l) some (holds, is) = omega (arith, ap length is, length-append before (l.now ∷ []))

-- where a stretch is asked for only where no line is shown after a selected one, and where a line is
-- selected that is matched, both hold if it has a line
module _ (left : ℕ) (invert : Bool) (count : ℕ) (none : (nat_eq left 0 && not invert) ≡ false → count ≡ 0) where
  pub asked_forward : invert ≡ true → count ≡ 0
  asked_forward e = none (ap (λ b. nat_eq left 0 && not b) e ∙ and_false (nat_eq left 0))
    where
      and_false : (b : Bool) → (b && false) ≡ false
      and_false true = refl
      and_false false = refl

  pub asked_due : (fewer : ℕ) → fewer ≤ count → (fewer ≡ 0) ⊎ (left ≡ 0)
  asked_due fewer few = elim (cases_lt 0 left) [
    | inl some ↦ inl (let zero = none (ap (λ b. b && not invert) (apart left some)) in omega (arith, few, zero))
    | inr zero ↦ inr (omega (arith, zero))
  ]
    where
      apart : (n : ℕ) → 0 < n → nat_eq n 0 ≡ false
      apart n some = search (arith, some)

module _ {s : Sought} {stretch : SearchedBlock} {before all : List Text} (d : IsDivided s stretch before all) where
  abbrev Ends : Option (Bor Text) → Type 0
  Ends line = MatchOption line (all ≡ before) (λ l. IsSought s l.now × (all ≡ before ++ l.now ∷ []))

  -- the lines before the last are some of them
  next_within : (line : Option (Bor Text)) → Ends line → (length before ≤ length all) × All HasNoNewline before
  next_within None same = (omega (arith, ap length same), rw same at d.free)
  next_within (Some l) (holds, is) = (omega (arith, ap length is, length-append before (l.now ∷ [])), free_before _ _ (rw is at d.free))

  pub before_within : length before ≤ stretch.count
  before_within = omega (arith, (next_within _ d.next).0, d.counted)

  pub before_counted : stretch.before_count ≤ stretch.count
  before_counted = omega (arith, before_within, d.many)

  pub before_free : All HasNoNewline before
  before_free = (next_within _ d.next).1

  -- they are whole lines
  pub before_block : IsBlock stretch.before.now
  before_block = (before, before_free, d.bytes)

  pub before_lines : lines_of stretch.before.now ≡ before
  before_lines = ap lines_of d.bytes ∙ lines_of-terminated before before_free

  -- under `-v` they are its rows, and where it has none there is nothing to write
  pub stretch_inverted : (es : List Expression) (options : Options) → s ≡ record { expressions = es; whole = options.line_regexp } → (many : Bool) (name : Text) → options.invert_match ≡ true → (number : ℕ) → (stretch.count ≡ 0) ⊎ IsBare options many
      → (rows : List Text) × RowsOfLines es options many name number all rows (length before) × (stretch.before.now ≡ written [] rows)
  stretch_inverted es options same many name inverts number (inl empty) =
      let none = nil_from_length all (omega (arith, empty, d.counted)) in
      let none_before = nil_from_length before (omega (arith, empty, before_within)) in
      ([], rw none (refl, ap length none_before), d.bytes ∙ ap terminated none_before)
  stretch_inverted es options same many name inverts number (inr bare) =
      (rows_selected options many name number before, rest stretch.line d.next, d.bytes ∙ sym (bare_bytes name bare number before))
    where
      first : RowsOfLines es options many name number before (rows_selected options many name number before) (length before)
      first = rows_numbered es options many _ bare.asked _ _ (selected_unmatched es options inverts before (rw same at d.none))

      rest : (line : Option (Bor Text)) → Ends line → RowsOfLines es options many name number all (rows_selected options many name number before) (length before)
      rest None is = rw is first
      rest (Some l) (holds, is) =
          rw is
          (rows_unmatched es options many _ _ _ _ _ first (unselected_matched es options inverts _ (rw same at holds)))
