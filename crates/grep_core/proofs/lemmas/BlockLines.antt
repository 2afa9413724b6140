-- The last lines of a block: where they begin, and that no others need be held after lines that
-- are.
use Rattle.{grep_core.proofs.{Prelude.{◌≡◌, ◌≢◌, ℕ, ◌+◌, ◌-◌, ◌<◌, ◌≤◌, min, inl, inr, List, [], ◌∷◌, ◌++◌, All, length, take, drop, get_or, refl, sym, ap, ◌∙◌, arith, length-append, append_assoc, append-nil, take-append-drop, take-append_seam, drop-append_seam, cases_lt, length-take, length-drop, get_or-drop, get_or_append_left, get_or-append-add, drop-drop, drop-append-le, take_more, take_all, All-drop, Text, newline, terminated, lines_of, HasNoNewline, IsBlock, LastLines, with_lines, last_of}, lemmas.WaitingRows.length-last_of}, re_syntax.proofs.lemmas.LinesLaws.{lines_of-terminated, terminated-append}, grep_io.proofs.lemmas.WindowBlocks.{ends_in_newline, drop_past}}

-- ---- the last of some lines

-- all of them
pub last_of-few : {A : Type 0} (most : ℕ) (xs : List A) → length xs ≤ most → last_of most xs ≡ xs
last_of-few most xs few = let none : length xs - most ≡ 0 = omega (arith, few) in ap (λ m. drop m xs) none

-- more after the last n of others
pub last_of-many : {A : Type 0} (most n : ℕ) (xs ys : List A) → n ≤ length xs → n ≤ most → last_of most (last_of n xs ++ ys) ≡ last_of (min (n + length ys) most) (xs ++ ys)
last_of-many most n xs ys within few =
    let k = length xs - n in
    let front : k ≤ length xs = omega arith in
    let joined = sym (drop-append-le k xs ys front) in
    let long = length-append (last_of n xs) ys ∙ ap (λ m. m + length ys) (length-last_of n xs within) in
    let all = length-append xs ys in
    let places : k + (n + length ys - most) ≡ length xs + length ys - min (n + length ys) most = omega (arith, within, few) in
    ap (λ m. drop (m - most) (last_of n xs ++ ys)) long ∙ ap (drop (n + length ys - most)) joined ∙ drop-drop (n + length ys - most) k (xs ++ ys) ∙ ap (λ m. drop m (xs ++ ys)) places ∙ ap (λ m. drop (m - min (n + length ys) most) (xs ++ ys)) (sym all)

-- more after the last ones
pub last_of-again : {A : Type 0} (most : ℕ) (xs ys : List A) → last_of most (last_of most xs ++ ys) ≡ last_of most (xs ++ ys)
last_of-again most xs ys = elim (cases_lt most (length xs)) [
  | inl over ↦
      (let same : min (most + length ys) most ≡ most = omega arith in
      last_of-many _ _ xs ys (omega (arith, over)) (omega arith) ∙ ap (λ m. last_of m (xs ++ ys)) same)
  | inr fits ↦ ap (λ l. last_of most (l ++ ys)) (last_of-few most xs fits)
]

-- the last ones after others
pub last_of-late : {A : Type 0} (most : ℕ) (xs ys : List A) → last_of most (xs ++ last_of most ys) ≡ last_of most (xs ++ ys)
last_of-late most xs ys = elim (cases_lt most (length ys)) [
  | inl over ↦
      (let k = length ys - most in
      let long = length-append xs (last_of most ys) ∙ ap (λ m. length xs + m) (length-last_of most ys (omega (arith, over))) in
      let short : length xs + most - most ≡ length xs + 0 = omega arith in
      let places : length xs + k ≡ length (xs ++ ys) - most = omega (arith, over, length-append xs ys) in
      ap (λ m. drop (m - most) (xs ++ last_of most ys)) long ∙ ap (λ m. drop m (xs ++ last_of most ys)) short ∙ drop_past xs (last_of most ys) 0 ∙ sym (drop_past xs ys k) ∙ ap (λ m. drop m (xs ++ ys)) places)
  | inr fits ↦ ap (λ l. last_of most (xs ++ l)) (last_of-few most ys fits)
]

-- ---- lines that are held

-- none more
pub holds_none : (h : LastLines) → length h.lines ≤ h.limit → h ≡ with_lines h []
holds_none h few = ap (λ ls. let r : LastLines = record { limit = h.limit; lines = ls } in r) (sym (ap (last_of h.limit) (append-nil h.lines) ∙ last_of-few h.limit h.lines few))

-- one more
pub holds_more : {held now : LastLines} (h : LastLines) (done : List Text) (line : Text) → held ≡ with_lines h done → now ≡ with_lines held (line ∷ []) → now ≡ with_lines h (done ++ line ∷ [])
holds_more h done line e is =
    is ∙ ap (λ (x : LastLines). with_lines x (line ∷ [])) e
    ∙ ap (λ ls. let r : LastLines = record { limit = h.limit; lines = ls } in r) (last_of-again h.limit (h.lines ++ done) (line ∷ []) ∙ ap (last_of h.limit) (append_assoc h.lines done (line ∷ [])))

-- no more than the last of them need be added
pub holds_last : (h : LastLines) (more : List Text) → with_lines h (last_of h.limit more) ≡ with_lines h more
holds_last h more = ap (λ ls. let r : LastLines = record { limit = h.limit; lines = ls } in r) (last_of-late h.limit h.lines more)

-- ---- where the last lines of a block begin

-- after whole lines and bytes without newline the last newline is at the end of the lines
end_at : (front rest : Text) (r : ℕ) → (0 < length front → get_or front (length front - 1) 0 ≡ newline) → HasNoNewline rest → r ≤ length (front ++ rest) → (0 < r → get_or (front ++ rest) (r - 1) 0 ≡ newline) → HasNoNewline (drop r (front ++ rest)) → r ≡ length front
end_at front rest r last free within ended cut = elim (cases_lt r (length front)) [
  | inl below ↦
      (let some : 0 < length front = omega (arith, below) in
      let j = length front - 1 - r in
      let place : r + j ≡ length front - 1 = omega (arith, below) in
      let inside : j < length (drop r (front ++ rest)) = omega (arith, below, length-drop r (front ++ rest), length-append front rest) in
      absurd (cut j 0 inside (get_or-drop r (front ++ rest) j 0 ∙ ap (λ n. get_or (front ++ rest) n 0) place ∙ get_or_append_left front rest 0 (length front - 1) (omega (arith, some)) ∙ last some)))
  | inr above ↦ elim (cases_lt (length front) r) [
    | inl over ↦
        (let j = r - 1 - length front in
        let place : length front + j ≡ r - 1 = omega (arith, over) in
        let inside : j < length rest = omega (arith, over, within, length-append front rest) in
        absurd (free j 0 inside (sym (get_or-append-add front rest j 0) ∙ ap (λ n. get_or (front ++ rest) n 0) place ∙ ended (omega (arith, over)))))
    | inr exact ↦ omega (arith, above, exact)
  ]
]

-- where there is a line there is a byte
some_byte : (ts : List Text) → length (terminated ts) ≡ 0 → length ts ≡ 0
some_byte [] none = refl
some_byte (t ∷ ts) none = absurd (omega (arith, none, length-append t (newline ∷ terminated ts)))

module _ (block : Text) (h : IsBlock block) where
  abbrev lines : List Text
  lines = lines_of block

  abbrev from_last : ℕ → ℕ
  from_last k = length (terminated (take (length lines - k) lines))

  these : lines ≡ h.0
  these = ap lines_of h.2 ∙ lines_of-terminated h.0 h.1

  block_is : block ≡ terminated lines
  block_is = h.2 ∙ ap terminated (sym these)

  free : All HasNoNewline lines
  free = rw these h.1

  -- its last lines
  pub last_free : (most : ℕ) → All HasNoNewline (last_of most lines)
  last_free most = All-drop HasNoNewline (length lines - most) lines free

  -- no line is looked at
  pub begins_none : length block ≡ from_last 0
  begins_none = ap length block_is ∙ ap (λ ts. length (terminated ts)) (sym (take_all (length lines - 0) lines (omega arith)))

  few_lines : (k : ℕ) → from_last k ≡ 0 → length lines ≤ k
  few_lines k none = omega (arith, some_byte _ none, length-take (length lines - k) lines)

  -- there are no more lines
  pub begins_all : (k most : ℕ) → 0 ≡ from_last k → k < most → drop 0 block ≡ terminated (last_of most lines)
  begins_all k most is below = block_is ∙ ap terminated (sym (last_of-few _ _ (omega (arith, few_lines k (sym is), below))))

  -- the last `most` lines were looked at
  pub begins_last : {start : ℕ} (most : ℕ) → start ≡ from_last most → drop start block ≡ terminated (last_of most lines)
  begins_last {start} most is =
      let m = length lines - most in
      let with_parts = block_is ∙ ap terminated (sym (take-append-drop m lines)) ∙ terminated-append (take m lines) (drop m lines) in
      ap (drop start) with_parts ∙ ap (λ n. drop n (terminated (take m lines) ++ terminated (drop m lines))) is ∙ drop-append_seam (terminated (take m lines)) (terminated (drop m lines))

  -- one line more
  module _ (start k : ℕ) (is : start ≡ from_last k) (some : start ≢ 0) where
    abbrev m : ℕ
    m = length lines - (k + 1)

    below : k < length lines
    below = elim (cases_lt k (length lines)) [
      | inl some_left ↦ some_left
      | inr none ↦
          (let zeroed : length lines - k ≡ 0 = omega (arith, none) in
          absurd (some (is ∙ ap (λ n. length (terminated (take n lines))) zeroed)))
    ]

    abbrev front : Text
    front = terminated (take m lines)

    abbrev line : Text
    line = get_or lines m []

    abbrev rest : Text
    rest = terminated (drop (length lines - k) lines)

    next_line : take (length lines - k) lines ≡ take m lines ++ line ∷ []
    next_line =
        let e : length lines - k ≡ m + 1 = omega (arith, below) in
        ap (λ n. take n lines) e ∙ take_more lines m [] (omega (arith, below))

    its_bytes : terminated (take (length lines - k) lines) ≡ front ++ (line ++ newline ∷ [])
    its_bytes = ap terminated next_line ∙ terminated-append (take m lines) (line ∷ [])

    start_is : start ≡ length (front ++ line) + 1
    start_is = omega (arith, is ∙ ap length its_bytes, length-append front (line ++ newline ∷ []), length-append line (newline ∷ []), length-append front line)

    with_parts : block ≡ (front ++ line) ++ (newline ∷ rest)
    with_parts =
        block_is ∙ ap terminated (sym (take-append-drop (length lines - k) lines)) ∙ terminated-append (take (length lines - k) lines) (drop (length lines - k) lines) ∙ ap (λ l. l ++ rest) its_bytes
        ∙ append_assoc front (line ++ newline ∷ []) rest ∙ ap (λ l. front ++ l) (append_assoc line (newline ∷ []) rest) ∙ sym (append_assoc front line (newline ∷ rest))

    before : take (start - 1) block ≡ front ++ line
    before =
        let e : start - 1 ≡ length (front ++ line) = omega (arith, start_is) in
        ap (take (start - 1)) with_parts ∙ ap (λ n. take n ((front ++ line) ++ (newline ∷ rest))) e ∙ take-append_seam (front ++ line) (newline ∷ rest)

    pub begins_before : (next : ℕ) → next ≤ length (take (start - 1) block) → (0 < next → get_or (take (start - 1) block) (next - 1) 0 ≡ newline) → HasNoNewline (drop next (take (start - 1) block)) → next ≡ from_last (k + 1)
    begins_before next within ended cut =
        end_at _ _ _ (ends_in_newline (take m lines)) (free m [] (omega (arith, below)))
        (rw before at within) (λ more. ap (λ t. get_or t (next - 1) 0) (sym before) ∙ ended more) (rw before at cut)
