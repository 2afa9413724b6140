-- What is written at a line, where lines around selected ones are shown, and which lines wait after
-- it.
use Rattle.grep_core.{proofs.{Prelude.{◌≡◌, ℕ, zero, suc, ◌+◌, ◌-◌, ◌<◌, ◌≤◌, nat_lt, min, Bool, true, false, not, List, [], ◌∷◌, ◌++◌, Option, Result, Ok, Err, IfOk, length, take, drop, get_or, refl, sym, ap, ◌∙◌, append-nil, append_assoc, arith, take-append-drop, if◌then◌else◌, is_err, Text, Options, Progress, SearchFault, Writer, LastLines, BreaksShown, ShowGives, IsErrAnd, hyphen, output_line, written, GoesOut, StopsWithin, Writes, next_shown, after_line, with_waiting, last_of, row_with, rows_around, false≢true, ltb-true, ltb-false, length-drop, length_push, drop-drop, drop-append-le, drop_all, take_more}, lemmas.{RowLemmas.{goes_on, stops_early, stops_later, writes_last}, WriterLaws.written-append}}, specs.declared.status.SearchFault.TheVariants.Write}

-- what holds at an Ok
pub if_kept : {T E P : Type 0} (r : Result T E) {refused : Bool} → refused ≡ is_err r → refused ≡ false → IfOk r (λ _. P) → P
if_kept (Ok v) e none h = h
if_kept (Err x) e none h = absurd (false≢true (sym none ∙ e))

-- a Bool that does not fail to hold
pub holds_too : (b : Bool) → not b ≡ false → b ≡ true
holds_too true e = refl
holds_too false e = absurd (false≢true (sym e))

-- ---- the last of some lines

pub last_of-none : {A : Type 0} (xs : List A) → last_of 0 xs ≡ []
last_of-none xs = drop_all (length xs - 0) xs (omega arith)

pub length-last_of : {A : Type 0} (n : ℕ) (xs : List A) → n ≤ length xs → length (last_of n xs) ≡ n
length-last_of n xs h = length-drop (length xs - n) xs ∙ (let e : length xs - (length xs - n) ≡ n = omega (arith, h) in e)

-- one more after them, of which at most this number are kept
pub last_of-more : {A : Type 0} (most n : ℕ) (xs : List A) (x : A) → n ≤ length xs → n ≤ most → last_of most (last_of n xs ++ x ∷ []) ≡ last_of (min (n + 1) most) (xs ++ x ∷ [])
last_of-more most n xs x within few =
    let k = length xs - n in
    let front : k ≤ length xs = omega arith in
    let joined = sym (drop-append-le k xs (x ∷ []) front) in
    let long = length_push (last_of n xs) x ∙ ap (λ m. m + 1) (length-last_of n xs within) in
    let all = length_push xs x in
    let places : k + (n + 1 - most) ≡ length xs + 1 - min (n + 1) most = omega (arith, within, few) in
    ap (λ m. drop (m - most) (last_of n xs ++ x ∷ [])) long ∙ ap (drop (n + 1 - most)) joined ∙ drop-drop (n + 1 - most) k (xs ++ x ∷ []) ∙ ap (λ m. drop m (xs ++ x ∷ [])) places ∙ ap (λ m. drop (m - min (n + 1) most) (xs ++ x ∷ [])) (sym all)

-- ---- which lines wait after a line

-- no line waits while lines after a selected one are still shown
abbrev pub WaitsNot : Progress → Type 0
WaitsNot p = 0 < p.left → p.waiting ≡ 0

waits_not_by : (p : Progress) (more : Bool) → nat_lt 0 p.left ≡ more → WaitsNot p → WaitsNot (if more then record p { left = p.left - 1 } else with_waiting 1 p)
waits_not_by p true e h = λ some. h (omega (arith, some))
waits_not_by p false e h = λ some. absurd (omega (arith, some, ltb-false 0 p.left e))

pub waits_not_next : (p : Progress) (selected : Bool) → WaitsNot p → WaitsNot (after_line p selected)
waits_not_next p true h = λ _. refl
waits_not_next p false h = waits_not_by p _ refl h

module _ (p : Progress) (lines : List Text) (line : Text) {recent new : List Text} (held : recent ≡ last_of p.waiting lines) (few : p.waiting ≤ p.context.before) (within : p.waiting ≤ length lines) (apart : WaitsNot p) where
  held_by : (more : Bool) → nat_lt 0 p.left ≡ more → new ≡ (if more then [] else last_of p.context.before (recent ++ line ∷ []))
      → new ≡ last_of (let q : Progress = if more then record p { left = p.left - 1 } else with_waiting 1 p in q.waiting) (lines ++ line ∷ [])
  held_by true e is = is ∙ sym (last_of-none (lines ++ line ∷ [])) ∙ ap (λ n. last_of n (lines ++ line ∷ [])) (sym (apart (ltb-true 0 p.left e)))
  held_by false e is = is ∙ ap (λ ls. last_of p.context.before (ls ++ line ∷ [])) held ∙ last_of-more p.context.before p.waiting lines line within few

  -- the lines that are held are those that wait
  pub held_next : (selected : Bool) → new ≡ (if (next_shown p selected).itself then [] else last_of p.context.before (recent ++ line ∷ [])) → new ≡ last_of (after_line p selected).waiting (lines ++ line ∷ [])
  held_next true is = is ∙ sym (last_of-none (lines ++ line ∷ []))
  held_next false is = held_by (nat_lt 0 p.left) refl is

-- ---- rows of lines that wait

module _ (options : Options) (many : Bool) (name : Text) where
  pub length_rows : (first : ℕ) (xs : List Text) → length (rows_around options many name first xs) ≡ length xs
  length_rows _ [] = refl
  length_rows first (x ∷ xs) = ap suc (length_rows (first + 1) xs)

  pub row_at : (first : ℕ) (xs : List Text) (k : ℕ) → k < length xs → get_or (rows_around options many name first xs) k [] ≡ row_with options many name hyphen (first + k) (get_or xs k [])
  row_at first [] k h = absurd (omega (arith, h))
  row_at first (x ∷ xs) zero h = let e : first ≡ first + 0 = omega arith in ap (λ n. row_with options many name hyphen n x) e
  row_at first (x ∷ xs) (suc k) h =
      let e : (first + 1) + k ≡ first + suc k = omega arith in
      row_at (first + 1) xs k (omega (arith, h)) ∙ ap (λ n. row_with options many name hyphen n (get_or xs k [])) e

module _ {W : Type 0} (contents : W → Option Text) (failures : W → ℕ) where
  module _ {a b c : W} (rows : List Text) (k : ℕ) (within : k < length rows) {row : Text} (is : get_or rows k [] ≡ row) (before : GoesOut contents failures a b (written [] (take k rows))) where
    -- one row more
    pub row_out : GoesOut contents failures b c (output_line [] row) → GoesOut contents failures a c (written [] (take (k + 1) rows))
    row_out more =
        let one = take_more rows k [] within ∙ ap (λ r. take k rows ++ r ∷ []) is in
        let bytes = ap (written []) one ∙ written-append [] (take k rows) (row ∷ []) ∙ ap (λ t. written [] (take k rows) ++ t) (append-nil (output_line [] row)) in
        rw bytes (goes_on contents failures a b c (written [] (take k rows)) (output_line [] row) before more)

    -- a write failed in it
    pub row_stops : StopsWithin contents failures b c (output_line [] row) → StopsWithin contents failures a c (written [] rows)
    row_stops stop =
        let one = take_more rows k [] within ∙ ap (λ r. take k rows ++ r ∷ []) is in
        let with_parts = sym (take-append-drop (k + 1) rows) ∙ ap (λ t. t ++ drop (k + 1) rows) one ∙ append_assoc (take k rows) (row ∷ []) (drop (k + 1) rows) in
        let bytes = ap (written []) with_parts ∙ written-append [] (take k rows) (row ∷ drop (k + 1) rows) in
        rw bytes
        (stops_later contents failures a b c (written [] (take k rows)) (output_line [] row ++ written [] (drop (k + 1) rows)) before
        (stops_early contents failures b c (output_line [] row) (written [] (drop (k + 1) rows)) stop))

  -- ---- what is written at a line

  module _ (between waiting : List Text) (row : Text) where
    abbrev all_at : Bool → List Text
    all_at itself = between ++ (if itself then waiting ++ row ∷ [] else [])

    -- a write failed in the separator
    pub stops_between : (itself : Bool) {a b : W} → StopsWithin contents failures a b (written [] between) → StopsWithin contents failures a b (written [] (all_at itself))
    stops_between itself {a} {b} s =
        rw (written-append [] between (if itself then waiting ++ row ∷ [] else [])) (stops_early contents failures a b (written [] between) (written [] (if itself then waiting ++ row ∷ [] else [])) s)

    bytes_at : written [] (all_at true) ≡ written [] between ++ (written [] waiting ++ output_line [] row)
    bytes_at =
        written-append [] between (waiting ++ row ∷ []) ∙ ap (λ t. written [] between ++ t) (written-append [] waiting (row ∷ []) ∙ ap (λ t. written [] waiting ++ t) (append-nil (output_line [] row)))

    -- a write failed in the rows of the lines that wait
    pub stops_waiting : {itself : Bool} → itself ≡ true → {a b c : W} → GoesOut contents failures a b (written [] between) → StopsWithin contents failures b c (written [] waiting) → StopsWithin contents failures a c (written [] (all_at itself))
    stops_waiting e {a} {b} {c} g s =
        rw (ap all_at e) (rw bytes_at
        (stops_later contents failures a b c (written [] between) (written [] waiting ++ output_line [] row) g (stops_early contents failures b c (written [] waiting) (output_line [] row) s)))

    -- the line's row is the last
    pub row_last : {T E : Type 0} {itself : Bool} → itself ≡ true → {a b c : W} (d : W) (r : Result T E) → GoesOut contents failures a b (written [] between) → GoesOut contents failures b c (written [] waiting) → Writes contents failures c d (output_line [] row) r
        → Writes contents failures a d (written [] (all_at itself)) r
    row_last e {a} {b} {c} d r g h w =
        rw (ap all_at e) (rw bytes_at
        (writes_last contents failures a b d (written [] between) (written [] waiting ++ output_line [] row) r g (writes_last contents failures b c d (written [] waiting) (output_line [] row) r h w)))

-- a write failed in what is shown at a line, and that is returned
pub breaks_shown : (options : Options) (many : Bool) (name : Text) (found : Bool) (number : ℕ) (line : Text) (p q : Progress) (recent held : LastLines) (old new : Writer) → {T : Type 0} → (r : Result T SearchFault) → IsErrAnd r (λ fault. fault ≡ Write)
    → BreaksShown options many name found number line p recent old new → ShowGives options many name found number line p q recent held old new r
breaks_shown _ _ _ _ _ _ p q _ _ _ _ {T} (Ok v) kept _ = absurd kept
breaks_shown options many name found number line p q recent held old new {T} (Err fault) kept broke = rw kept broke
