-- The whole lines that lie in a buffer.
use Rattle.{grep_io.proofs.Prelude.{◌≡◌, ◌≢◌, ℕ, suc, ◌+◌, ◌-◌, ◌<◌, ◌≤◌, inl, inr, Bool, true, false, List, [], ◌∷◌, ◌++◌, length, take, drop, get_or, slice_range, refl, sym, ap, ◌∙◌, arith, length-append, length-take, take-append-drop, drop-cons, ⊤, nat_lt, Text, newline, terminated, HasNoNewline, IsBlock, PassesAll, HasWholeLine, cases_lt, ltb-true, ltb-false, get_or_append_left, get_or-append-add, All-append}, re_trees.proofs.lemmas.LinesLaws.all_none, re_runs.proofs.lemmas.{BlockLemmas.ended_text, Ranges.{at_range, drop_range, length_range}}}
pub use Rattle.re_runs.proofs.lemmas.Ranges.{joined_range}

-- ---- newlines

-- the byte at which a text is cut
pub byte_at : {bytes : Text} (k : ℕ) → k < length bytes → bytes ≡ take k bytes ++ newline ∷ drop (k + 1) bytes → get_or bytes k 0 ≡ newline
byte_at {bytes} k below cut =
    let place : k ≡ length (take k bytes) + 0 = omega (arith, length-take k bytes) in
    cc (get_or-append-add (take k bytes) (newline ∷ drop (k + 1) bytes) 0 0)

-- a newline in a range is before the place after which there is none
pub newline_before : (buffer : Text) (start last end k : ℕ) → end ≤ length buffer → HasNoNewline (slice_range buffer last end) → start + k < end → get_or buffer (start + k) 0 ≡ newline → start + k + 1 ≤ last
newline_before buffer start last end k within free below is =
    elim (cases_lt (start + k) last) [
      | inl lt ↦ omega arith
      | inr le ↦
          let place : last + (start + k - last) ≡ start + k = omega arith in
          let here : get_or (slice_range buffer last end) (start + k - last) 0 ≡ newline = cc (at_range buffer last end (start + k - last) (omega arith)) in
          absurd (free (start + k - last) 0 (omega (arith, length_range buffer last end within)) here)
    ]

module _ (buffer before : Text) (start last end : ℕ) (ordered : start ≤ last) (before_end : last ≤ end) (within : end ≤ length buffer)
    (ended : start < last → get_or buffer (last - 1) 0 ≡ newline) (cut_off : HasNoNewline (slice_range buffer last end)) where
  -- a line is whole where the range extends past a newline
  pub whole_line : HasNoNewline before → HasWholeLine (before ++ slice_range buffer start end) (nat_lt start last)
  whole_line none = go (nat_lt start last) refl
    where
      go : (b : Bool) → nat_lt start last ≡ b → HasWholeLine (before ++ slice_range buffer start end) b
      go true e = λ free.
          let below = ltb-true start last e in
          let k = last - 1 - start in
          let here : get_or (before ++ slice_range buffer start end) (length before + k) 0 ≡ newline = get_or-append-add before (slice_range buffer start end) k 0 ∙ at_range buffer start end k (omega arith) ∙ ap (λ n. get_or buffer n 0) (omega arith) ∙ ended below in
          free (length before + k) 0 (omega (arith, length-append before (slice_range buffer start end), length_range buffer start end within)) here
      go false e =
          let same : last ≡ start = omega (arith, ltb-false start last e) in
          All-append (λ b. b ≢ newline) before (slice_range buffer start end) none (rw same at cut_off)

  -- the range up to the newline is whole lines
  pub block_range : IsBlock (slice_range buffer start last)
  block_range =
      elim (cases_lt start last) [
        | inl lt ↦
            let width : last - (last - 1) ≡ 1 = omega arith in
            let short : slice_range buffer (last - 1) last ≡ take 1 (drop (last - 1) buffer) = rw width in
            let head = drop-cons buffer (last - 1) 0 (omega arith) in
            let one : slice_range buffer (last - 1) last ≡ newline ∷ [] = cc (ended lt) in
            rw (← one, joined_range buffer start (last - 1) last (omega arith) (omega arith)) at (ended_text (slice_range buffer start (last - 1)))
        | inr le ↦ let width : last - start ≡ 0 = omega arith in ([], all_none, ap (λ n. take n (drop start buffer)) width)
      ]

-- where no more is ahead than is in the range nothing waits, and what is ahead begins with the
-- whole lines of the range
none_waits : (before rest : Text) → length (before ++ rest) ≤ length rest → before ≡ []
none_waits [] rest few = refl
none_waits (b ∷ before) rest few = absurd (omega (arith, length-append before rest))

pub ahead_begins : (buffer before : Text) (start last end : ℕ) → start ≤ last → last ≤ end → end ≤ length buffer → length (before ++ slice_range buffer start end) ≤ end - start → before ++ slice_range buffer start end ≡ slice_range buffer start last ++ slice_range buffer last end
ahead_begins buffer before start last end ordered before_end within few =
    let empty = none_waits before (slice_range buffer start end) (omega (arith, length_range buffer start end within)) in
    ap (λ l. l ++ slice_range buffer start end) empty ∙ sym (joined_range buffer start last end ordered before_end)

-- of the bytes that were read
to_range : (buffer : Text) (count : ℕ) → take count buffer ≡ slice_range buffer 0 count
to_range buffer count = let width : count ≡ count - 0 = omega arith in ap (λ n. take n buffer) width

pub fresh_ended : (buffer : Text) (last count : ℕ) → last ≤ count → (0 < last → get_or (take count buffer) (last - 1) 0 ≡ newline) → 0 < last → get_or buffer (last - 1) 0 ≡ newline
fresh_ended buffer last count within ended some =
    let place : last - 1 ≡ 0 + (last - 1) = omega arith in
    cc (at_range buffer 0 count (last - 1) (omega arith), to_range buffer count, ended some)

pub fresh_cut_off : (buffer : Text) (last count : ℕ) → last ≤ count → HasNoNewline (drop last (take count buffer)) → HasNoNewline (slice_range buffer last count)
fresh_cut_off buffer last count within free =
    let place : 0 + last ≡ last = omega arith in
    rw (to_range buffer count, drop_range buffer 0 count last (omega arith), place) at free

-- ---- lines that are passed

-- whole lines end in a newline
pub ends_in_newline : (lines : List Text) → 0 < length (terminated lines) → get_or (terminated lines) (length (terminated lines) - 1) 0 ≡ newline
ends_in_newline [] some = absurd (omega arith)
ends_in_newline (t ∷ []) some = ap (λ n. get_or (t ++ newline ∷ []) n 0) (omega (arith, length-append t (newline ∷ []))) ∙ get_or-append-add t (newline ∷ []) 0 0
ends_in_newline (t ∷ u ∷ us) some =
    let later = terminated (u ∷ us) in
    let long : 0 < length later = omega (arith, length-append u (newline ∷ terminated us)) in
    ap (λ n. get_or (t ++ newline ∷ later) n 0) (omega (arith, length-append t (newline ∷ later))) ∙ get_or-append-add t (newline ∷ later) (suc (length later - 1)) 0 ∙ ends_in_newline (u ∷ us) long

pub drop_past : {A : Type 0} (xs ys : List A) (n : ℕ) → drop (length xs + n) (xs ++ ys) ≡ drop n ys
drop_past [] ys n = let place : 0 + n ≡ n = omega arith in rw place
drop_past (x ∷ xs) ys n =
    let place : suc (length xs) + n ≡ suc (length xs + n) = omega arith in
    rw place (drop_past xs ys n)

-- the last of the bytes that are passed is a newline
pub passes_newline : (bytes : Text) (count : ℕ) → PassesAll (λ _. ⊤) bytes count → 0 < count → (count ≤ length bytes) × (get_or bytes (count - 1) 0 ≡ newline)
passes_newline bytes count (lines, rest, free, any, is, counted) some =
    let long : length bytes ≡ length (terminated lines) + length rest = cc (length-append (terminated lines) rest) in (omega arith, ap (λ l. get_or l (count - 1) 0) is ∙ get_or_append_left (terminated lines) rest 0 (count - 1) (omega arith) ∙ ap (λ n. get_or (terminated lines) (n - 1) 0) counted ∙ ends_in_newline lines (omega arith))

module _ (buffer before : Text) (start last end count : ℕ) (within : end ≤ length buffer) (ordered : start ≤ end) (cut_off : HasNoNewline (slice_range buffer last end))
    (none : HasNoNewline before) (passes : PassesAll (λ _. ⊤) (before ++ slice_range buffer start end) count) (some : 0 < count) where
  abbrev part : Text
  part = slice_range buffer start end

  last_byte : (count ≤ length (before ++ part)) × (get_or (before ++ part) (count - 1) 0 ≡ newline)
  last_byte = passes_newline (before ++ part) count passes some

  -- what waits is part of the first line
  pub past_waiting : length before < count
  past_waiting =
      elim (cases_lt (length before) count) [
        | inl lt ↦ lt
        | inr le ↦ absurd (none (count - 1) 0 (omega arith) (sym (get_or_append_left before part 0 (count - 1) (omega arith)) ∙ last_byte.1))
      ]

  -- the lines end before the place after which there is no newline
  pub passed_before : start + (count - length before) ≤ last
  passed_before =
      let k = count - 1 - length before in
      let below : start + k < end = omega (arith, past_waiting, last_byte.0, length-append before part, length_range buffer start end within) in
      let here : get_or buffer (start + k) 0 ≡ newline = sym (at_range buffer start end k below) ∙ sym (get_or-append-add before part k 0) ∙ ap (λ n. get_or (before ++ part) n 0) (omega (arith, past_waiting)) ∙ last_byte.1 in
      omega (arith, newline_before buffer start last end k within cut_off below here, past_waiting)

  -- and what follows them is ahead
  pub ahead_after : last ≤ end → before ++ part ≡ take count (before ++ part) ++ slice_range buffer (start + (count - length before)) end
  ahead_after inside =
      let rest : drop count (before ++ part) ≡ slice_range buffer (start + (count - length before)) end = ap (λ n. drop n (before ++ part)) (omega (arith, past_waiting)) ∙ drop_past before part (count - length before) ∙ drop_range buffer start end (count - length before) (omega (arith, passed_before)) in
      sym (take-append-drop count (before ++ part)) ∙ ap (λ l. take count (before ++ part) ++ l) rest
