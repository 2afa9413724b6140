-- Ranges of bytes, and lines of a block by their two places.
use Rattle.{re_runs.proofs.Prelude.{◌≡◌, ℕ, suc, ◌+◌, ◌-◌, ◌<◌, ◌≤◌, ◌++◌, ◌∷◌, [], length, take, drop, get_or, slice_index, slice_range, sym, ap, ◌∙◌, arith, length-take, length-drop, get_or-take, get_or-drop, get_or-append-add, drop-drop, drop-cons, take-append-drop, drop-append-le, All-append, ◌≢◌, Text, newline, HasNoNewline, IsLineFrom}, std.proofs.lemmas.List.{drop-take, take-take, take_more, Folds.drop_split}}

-- a byte of a range is one of the buffer
pub at_range : (buffer : Text) (start end k : ℕ) → start + k < end → get_or (slice_range buffer start end) k 0 ≡ get_or buffer (start + k) 0
at_range buffer start end k below = get_or-take (end - start) (drop start buffer) k 0 (omega arith) ∙ get_or-drop start buffer k 0

pub length_range : (buffer : Text) (start end : ℕ) → end ≤ length buffer → length (slice_range buffer start end) ≡ end - start
length_range buffer start end within = omega (arith, length-take (end - start) (drop start buffer), length-drop start buffer)

-- what follows the first bytes of a range is a range
pub drop_range : (buffer : Text) (start end k : ℕ) → start + k ≤ end → drop k (slice_range buffer start end) ≡ slice_range buffer (start + k) end
drop_range buffer start end k h =
    ap (λ n. drop k (take n (drop start buffer))) (omega arith) ∙ drop-take k (end - (start + k)) (drop start buffer) ∙ ap (take (end - (start + k))) (drop-drop k start buffer ∙ ap (λ n. drop n buffer) (omega arith))

-- two ranges that meet are one
pub joined_range : (buffer : Text) (start mid end : ℕ) → start ≤ mid → mid ≤ end → slice_range buffer start mid ++ slice_range buffer mid end ≡ slice_range buffer start end
joined_range buffer start mid end low high =
    let part = slice_range buffer start end in
    let rest : drop (mid - start) part ≡ slice_range buffer mid end = drop_range buffer start end (mid - start) (omega arith) ∙ ap (λ n. slice_range buffer n end) (omega arith) in
    ap (λ l. l ++ slice_range buffer mid end) (sym (take-take (mid - start) (end - start) (drop start buffer) (omega arith))) ∙ ap (λ l. take (mid - start) part ++ l) (sym rest) ∙ take-append-drop (mid - start) part

-- so are a range and the byte after it
pub range_more : (buffer : Text) (start end : ℕ) → start ≤ end → end < length buffer → slice_range buffer start (end + 1) ≡ slice_range buffer start end ++ slice_index buffer end ∷ []
range_more buffer start end low within =
    ap (λ n. take n (drop start buffer)) (omega arith) ∙ take_more (drop start buffer) (end - start) 0 (omega (arith, length-drop start buffer))
    ∙ ap (λ b. slice_range buffer start end ++ b ∷ []) (get_or-drop start buffer (end - start) 0 ∙ ap (λ n. get_or buffer n 0) (omega arith))

-- ---- lines

-- bytes without a newline are a line if a newline follows
pub line_here : (block : Text) (start end : ℕ) → start ≤ end → end < length block → HasNoNewline (slice_range block start end) → slice_index block end ≡ newline → IsLineFrom block start end
line_here block start end low within free here =
    let next : suc end ≡ end + 1 = omega arith in
    (low, within, free, drop_split block start end low ∙ ap (λ l. slice_range block start end ++ l) (cc (drop-cons block end 0 within)))

pub newline_at : (block : Text) (start end : ℕ) → IsLineFrom block start end → slice_index block end ≡ newline
newline_at block start end cut =
    let line = slice_range block start end in
    let there : start + (length line + 0) ≡ end = omega (arith, length_range block start end (omega (arith, cut.1))) in
    sym (rw there) ∙ sym (get_or-drop start block (length line + 0) 0) ∙ ap (λ l. get_or l (length line + 0) 0) cut.3 ∙ get_or-append-add line (newline ∷ drop (end + 1) block) 0 0

-- a line has no newline before its end
pub none_inside : (block : Text) (start end k : ℕ) → IsLineFrom block start end → start ≤ k → k < end → slice_index block k ≡ newline → ⊥
none_inside block start end k cut low below here = cut.2 (k - start) 0 (omega (arith, length_range block start end (omega arith))) (at_range block start end (k - start) (omega arith) ∙ ap (λ n. get_or block n 0) (omega arith) ∙ here)

-- it has one end
pub same_end : (block : Text) (start end other : ℕ) → IsLineFrom block start end → IsLineFrom block start other → end ≡ other
same_end block start end other one two =
    let low : end < other → ⊥ = λ lt. none_inside block start other end two one.0 lt (newline_at block start end one) in
    let high : other < end → ⊥ = λ lt. none_inside block start end other one two.0 lt (newline_at block start other two) in
    omega arith

-- it goes on before it with bytes without a newline
pub line_before : (block : Text) (start place end : ℕ) → start ≤ place → HasNoNewline (slice_range block start place) → IsLineFrom block place end → IsLineFrom block start end
line_before block start place end low free cut =
    line_here block start end (omega arith) cut.1
    (rw (joined_range block start place end low cut.0) at (All-append (λ b. b ≢ newline) (slice_range block start place) (slice_range block place end) free cut.2)) (newline_at block place end cut)

-- the line around a place goes on to the newline after it
module _ (block : Text) (start place : ℕ) (low : start ≤ place) (free : HasNoNewline (drop start (take place block))) where
  pub line_around : (end : ℕ) → IsLineFrom block place end → IsLineFrom block start end
  line_around end cut =
      let same : drop start (take place block) ≡ slice_range block start place = ap (λ n. drop start (take n block)) (omega arith) ∙ drop-take start (place - start) block in
      line_before block start place end low (rw same at free) cut

  -- or to the block's end
  pub none_around : place ≤ length block → HasNoNewline (drop place block) → HasNoNewline (drop start block)
  none_around within none =
      let split : drop start block ≡ drop start (take place block) ++ drop place block =
      ap (drop start) (sym (take-append-drop place block)) ∙ drop-append-le start (take place block) (drop place block) (omega (arith, length-take place block)) in
      rw split (All-append (λ b. b ≢ newline) (drop start (take place block)) (drop place block) free none)

-- a range of the rest of a block is one of the block
pub range_after : (block : Text) (s a end : ℕ) → slice_range (drop s block) a (end - s) ≡ slice_range block (s + a) end
range_after block s a end = ap (take (end - s - a)) (drop-drop a s block) ∙ ap (λ n. take n (drop (s + a) block)) (omega arith)

-- so is a line
pub line_after : (block : Text) (s a end : ℕ) → IsLineFrom block (s + a) end → IsLineFrom (drop s block) a (end - s)
line_after block s a end cut =
    let there : s + (end - s) ≡ end = omega arith in
    line_here (drop s block) a (end - s) (omega arith) (omega (arith, length-drop s block)) (rw (range_after block s a end) cut.2) (cc (get_or-drop s block (end - s) 0, newline_at block (s + a) end cut))
