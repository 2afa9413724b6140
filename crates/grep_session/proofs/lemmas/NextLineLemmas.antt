-- The next line of a chunk that an expression matches, by its number.
use Rattle.{grep_session.proofs.Prelude.{◌≡◌, ℕ, Bool, Some, ◌+◌, ◌-◌, ◌^◌, ◌<◌, ◌≤◌, List, [], ◌∷◌, ◌++◌, All, length, take, drop, get_or, slice_range, sym, ap, ◌∙◌, arith, length-append, length-drop, append_assoc, take-append_seam, get_or-append_seam, get_or-drop, get_or_append_left, take-append-drop, drop-take, take-take, Text, terminated, Span, IsNext, Expression, Matches, IsNextLine, next_line_cost}, re_syntax.proofs.lemmas.LinesLaws.terminated-append}

-- the first elements, and the next
first_of_rest : (xs : List Text) (y : Text) (ys : List Text) → take (length xs + 1) (xs ++ y ∷ ys) ≡ xs ++ y ∷ []
first_of_rest xs y ys =
    let counted = sym (length-append xs (y ∷ [])) in
    ap (λ n. take n (xs ++ y ∷ ys)) counted ∙ ap (take (length (xs ++ y ∷ []))) (sym (append_assoc xs (y ∷ []) ys)) ∙ take-append_seam (xs ++ y ∷ []) ys

module _ (P : Text → Type 0) (texts : List Text) (from : ℕ) where
  -- an element of the rest by its number in the whole
  in_rest : (k : ℕ) → from ≤ k → get_or (drop from texts) (k - from) [] ≡ get_or texts k []
  in_rest k h = let place : from + (k - from) ≡ k = omega arith in cc (get_or-drop from texts (k - from) [])

  -- no line from there on has the property
  pub none_from : (lines : List Text) → lines ≡ drop from texts → All (λ line. ¬ P line) lines → (k : ℕ) → from ≤ k → k < length texts → ¬ P (get_or texts k [])
  none_from lines rest none k low high =
      rw (in_rest k low) at (rw rest at none (k - from) [] (omega (arith, length-drop from texts)))

  module _ (lines : List Text) (at : Span) (rest : lines ≡ drop from texts) (next : IsNext P lines at) (within : from ≤ length texts) where
    -- the number of the next line that has it
    abbrev pub number : ℕ
    number = from + length next.before

    divided : drop from texts ≡ next.before ++ next.line ∷ next.after
    divided = sym rest ∙ next.divided

    pub inside : number < length texts
    inside = omega (arith, length-drop from texts, ap length divided, length-append next.before (next.line ∷ next.after))

    front : take number texts ≡ take from texts ++ next.before
    front =
        let whole : drop from (take (from + length next.before) texts) ≡ next.before = cc (drop-take from (length next.before) texts, take-append_seam next.before (next.line ∷ next.after)) in
        let first : take from (take (from + length next.before) texts) ≡ take from texts = take_take_front in
        sym (take-append-drop from (take number texts)) ∙ (λ i. first i ++ whole i)
      where
        take_take_front : take from (take (from + length next.before) texts) ≡ take from texts
        take_take_front = take-take from (from + length next.before) texts (omega arith)

    -- where it begins in the text of all lines
    pub place : (start : ℕ) → start ≡ length (terminated (take from texts)) → start + at.start ≡ length (terminated (take number texts))
    place start is =
        let all : length (terminated (take number texts)) ≡ length (terminated (take from texts)) + length (terminated next.before) = ap (λ l. length (terminated l)) front ∙ ap length (terminated-append (take from texts) next.before) ∙ length-append (terminated (take from texts)) (terminated next.before) in
        omega (arith, is, next.starts, all)

    pub place_fits : (start : ℕ) → start ≡ length (terminated (take from texts)) → length (terminated texts) < 2 ^ 64 → start + at.start < 2 ^ 64
    place_fits start is fits =
        let both =
        ap (λ l. length (terminated l)) (sym (take-append-drop number texts)) ∙ ap length (terminated-append (take number texts) (drop number texts)) ∙ length-append (terminated (take number texts)) (terminated (drop number texts)) in
        omega (arith, place start is)

    pub holds_there : P (get_or texts number [])
    holds_there =
        let here : get_or texts number [] ≡ next.line = cc (get_or-drop from texts (length next.before) [], get_or-append_seam next.before next.line next.after []) in
        rw here next.holds

    pub none_before : (k : ℕ) → from ≤ k → k < number → ¬ P (get_or texts k [])
    none_before k low high =
        let inside_front : k - from < length next.before = omega arith in
        let here : get_or next.before (k - from) [] ≡ get_or texts k [] = cc (get_or_append_left next.before (next.line ∷ next.after) [] (k - from) inside_front, in_rest k low) in
        rw here at (next.passed (k - from) [] inside_front)

    -- the bytes up to its newline, and that
    pub cost : at.end + 1 ≡ length (terminated (slice_range texts from (number + 1)))
    cost =
        let some : number + 1 - from ≡ length next.before + 1 = omega arith in
        let lines : slice_range texts from (number + 1) ≡ next.before ++ next.line ∷ [] =
        (λ i. take (some i) (divided i)) ∙ first_of_rest next.before next.line next.after in
        let bytes =
        ap (λ l. length (terminated l)) lines ∙ ap length (terminated-append next.before (next.line ∷ [])) ∙ length-append (terminated next.before) (terminated (next.line ∷ [])) in
        omega (arith, length-append next.line (10 ∷ []))

-- the next line that an expression matches, by the number that its place has, and the bytes up to it
pub next_there : (e : Expression) (entire : Bool) (texts lines : List Text) (from start size k : ℕ) (at : Span) → lines ≡ drop from texts → IsNext (λ line. Matches e line entire) lines at → from ≤ length texts → start ≡ length (terminated (take from texts)) → size ≡ length texts
    → ((n : ℕ) → from ≤ n → n ≤ size → start + at.start ≡ length (terminated (take n texts)) → k ≡ n) → IsNextLine e entire texts from (Some k) × (at.end + 1 ≡ next_line_cost texts from (Some k))
next_there e entire texts lines from start size k at rest next within is many at_place =
    let P = λ (line : Text). Matches e line entire in
    let n = number P texts from lines at rest next within in
    let there = inside P texts from lines at rest next within in
    let same = at_place n (omega arith) (omega arith) (place P texts from lines at rest next within start is) in
    rw same (
      (omega arith, there, holds_there P texts from lines at rest next within, none_before P texts from lines at rest next within),
      cost P texts from lines at rest next within,
    )

-- ---- the bytes of the first lines, with their newlines

-- two lists of lines, one after the other
bytes_of_both : (xs ys : List Text) → length (terminated (xs ++ ys)) ≡ length (terminated xs) + length (terminated ys)
bytes_of_both xs ys = cc (terminated-append xs ys, length-append (terminated xs) (terminated ys))

-- the first lines and all the others
pub bytes_rest : (texts : List Text) (from : ℕ) → length (terminated (take from texts)) + length (terminated (drop from texts)) ≡ length (terminated texts)
bytes_rest texts from = cc (bytes_of_both _ _, take-append-drop from texts)

pub bytes_within : (texts : List Text) (from : ℕ) → length (terminated (take from texts)) ≤ length (terminated texts)
bytes_within texts from = omega (arith, bytes_rest texts from)

-- the first lines and those from there up to another place
pub bytes_up_to : (texts : List Text) (from to : ℕ) → from ≤ to → length (terminated (take from texts)) + length (terminated (slice_range texts from to)) ≡ length (terminated (take to texts))
bytes_up_to texts from to h =
    let place : from + (to - from) ≡ to = omega arith in
    let rest : drop from (take to texts) ≡ slice_range texts from to = cc (drop-take from (to - from) texts) in
    let first = take-take from to texts h in
    sym (bytes_of_both _ _) ∙ (λ i. length (terminated ((sym first) i ++ (sym rest) i))) ∙ ap (λ l. length (terminated l)) (take-append-drop from (take to texts))
