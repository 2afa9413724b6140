-- The next line of a block that has a property, and how many lines have it.
use Rattle.{re_runs.proofs.{Prelude.{◌≡◌, List, [], ◌∷◌, ◌++◌, All, refl, ap, ◌∙◌, append_assoc, ℕ, ◌+◌, ◌-◌, ◌<◌, ◌≤◌, inl, inr, Option, Some, None, length, drop, slice_range, sym, arith, append-nil, length-append, length-drop, Text, newline, terminated, HasNoNewline, lines_of, Span, IsBlock, PassesAll, Lacks, StandsIn, HoldsOfMany, IsLineFrom, IsNext, FindsNext, drop-append_seam, drop-length, All-append, All-cons, All-drop, All-head, All-nil, All-tail}, lemmas.{CountedBlocks.has_one, Ranges.length_range}}, re_trees.proofs.lemmas.LinesLaws.{terminated-append, lines_of-line, all_head, all_tail, lines_of-terminated, all_cons, all_none, none_in_empty}}

-- the lines of a text that begins with some, each ended by a newline, begin with these
pub lines_of-beyond : (ts : List Text) (rest : Text) → All HasNoNewline ts → lines_of (terminated ts ++ rest) ≡ ts ++ lines_of rest
lines_of-beyond [] rest h = refl
lines_of-beyond (t ∷ ts) rest h = cc (append_assoc t (newline ∷ terminated ts) rest, lines_of-line t (terminated ts ++ rest) (all_head t ts h), lines_of-beyond ts rest (all_tail t ts h))

-- ---- lines at the front of a text

-- what is left after them
pub left_after : (block rest : Text) (start : ℕ) (lines : List Text) → block ≡ terminated lines ++ rest → start ≡ length (terminated lines) → drop start block ≡ rest
left_after block rest start lines is counted = cc (drop-append_seam (terminated lines) rest)

-- it is a block if the whole is one
left_block : {block : Text} (rest : Text) (lines : List Text) → All HasNoNewline lines → IsBlock block → block ≡ terminated lines ++ rest → IsBlock rest
left_block rest lines free (ts, all, whole) is =
    let same : ts ≡ lines ++ lines_of rest = cc (lines_of-terminated ts all, sym whole ∙ is, lines_of-beyond lines rest free) in
    let both : terminated lines ++ rest ≡ terminated lines ++ terminated (lines_of rest) = cc (terminated-append lines (lines_of rest)) in
    let others : All HasNoNewline (drop (length lines) (lines ++ lines_of rest)) = All-drop HasNoNewline (length lines) (lines ++ lines_of rest) (rw same at all) in (
      lines_of rest,
      rw (drop-append_seam lines (lines_of rest)) at others,
      sym (drop-append_seam (terminated lines) rest) ∙ ap (drop (length (terminated lines))) both ∙ drop-append_seam (terminated lines) (terminated (lines_of rest)),
    )

-- so is what is left after lines that were passed
pub block_after : (Holds : Text → Type 0) (block : Text) (start : ℕ) → IsBlock block → PassesAll Holds block start → IsBlock (drop start block)
block_after Holds block start whole (lines, rest, free, held, is, counted) = rw (left_after block rest start lines is counted) (left_block _ _ free whole is)

-- a block without newline has no line
no_lines : (rest : Text) → IsBlock rest → HasNoNewline rest → lines_of rest ≡ []
no_lines rest ([], free, is) none = cc (lines_of-terminated [] free)
no_lines rest (t ∷ ts, free, is) none = absurd (has_one t _ (rw is at none))

-- the lines of a block are its bytes
pub block_lines : (block : Text) → IsBlock block → block ≡ terminated (lines_of block)
block_lines block (ts, free, is) = cc (sym (lines_of-terminated ts free) ∙ ap lines_of (sym is))

pub free_lines : (block : Text) → IsBlock block → All HasNoNewline (lines_of block)
free_lines block (ts, free, is) = rw (ap lines_of is ∙ lines_of-terminated ts free) free

-- ---- from one line to the next

module _ (P : Text → Type 0) where
  abbrev Not : Text → Type 0
  Not line = ¬ P line

  -- lines are passed after those that were
  pub passed_on : (block : Text) (start count : ℕ) → PassesAll Not block start → PassesAll Not (drop start block) count → PassesAll Not block (start + count)
  passed_on block start count (lines, rest, free, none, is, counted) (more, others, free_more, none_more, is_more, counted_more) =
      let left : drop start block ≡ rest = left_after block rest start lines is counted in (
        lines ++ more,
        others,
        All-append HasNoNewline lines more free free_more,
        All-append Not lines more none none_more,
        is ∙ ap (λ l. terminated lines ++ l) (sym left ∙ is_more) ∙ sym (append_assoc (terminated lines) (terminated more) others) ∙ ap (λ l. l ++ others) (sym (terminated-append lines more)),
        omega (arith, ap length (terminated-append lines more), length-append (terminated lines) (terminated more)),
      )

  -- all are passed if no newline is left
  pub none_next : (block : Text) (start : ℕ) → IsBlock block → PassesAll Not block start → HasNoNewline (drop start block) → FindsNext P (lines_of block) None
  none_next block start whole (lines, rest, free, none, is, counted) ends =
      let all : lines ≡ lines_of block = sym (append-nil lines) ∙ ap (λ l. lines ++ l) (sym (no_lines rest (left_block _ _ free whole is) (rw (left_after block rest start lines is counted) at ends))) ∙ sym (cc (lines_of-beyond lines rest free)) in
      rw all at none

  -- so are they if the whole block is passed
  pub none_in_all : (block : Text) → IsBlock block → PassesAll Not block (length block) → FindsNext P (lines_of block) None
  none_in_all block whole passed = none_next block (length block) whole passed (rw (drop-length block) none_in_empty)

  -- ---- the same of a line by its two places

  module _ (block : Text) (start end : ℕ) (cut : IsLineFrom block start end) (passed : PassesAll Not block start) where
    pub long : length (slice_range block start end) ≡ end - start
    long = length_range block start end (omega arith)

    -- it is passed
    pub passed_from : ¬ P (slice_range block start end) → PassesAll Not block (end + 1)
    passed_from none =
        let line = slice_range block start end in
        let place : start + (length line + 1) ≡ end + 1 = omega (arith, long) in
        rw place at (passed_on block start (length line + 1) passed
        (line ∷ [], drop (end + 1) block, all_cons line [] cut.2 all_none, All-cons Not line [] none (All-nil Not), cut.3 ∙ sym (append_assoc line (newline ∷ []) (drop (end + 1) block)), sym (length-append line (newline ∷ []))))

    -- or it is the next one
    pub next_from : P (slice_range block start end) → IsNext P (lines_of block) (record { start = start; end = end })
    next_from holds =
        let (lines, rest, free, none, is, counted) = passed in
        record {
          before = lines;
          line = slice_range block start end;
          after = lines_of (drop (end + 1) block);
          divided = cc (lines_of-beyond lines rest free, ap lines_of (sym (left_after block rest start lines is counted) ∙ cut.3) ∙ lines_of-line (slice_range block start end) (drop (end + 1) block) cut.2);
          passed = none;
          holds = holds;
          starts = counted;
          ends = omega (arith, long);
        }

  -- ---- the lines after it

  -- the bytes after the next line
  pub bytes_after_next : (block : Text) (place : Span) → IsBlock block → (n : IsNext P (lines_of block) place) → drop (place.end + 1) block ≡ terminated n.after
  bytes_after_next block place whole n =
      let bytes =
      block_lines block whole ∙ ap terminated (n.divided ∙ sym (append_assoc n.before (n.line ∷ []) n.after)) ∙ terminated-append (n.before ++ n.line ∷ []) n.after in
      let place_is : place.end + 1 ≡ length (terminated (n.before ++ n.line ∷ [])) =
      omega (arith, ap length (terminated-append n.before (n.line ∷ [])), length-append (terminated n.before) (n.line ++ newline ∷ []), length-append n.line (newline ∷ [])) in
      left_after block (terminated n.after) (place.end + 1) (n.before ++ n.line ∷ []) bytes place_is

  -- the lines after it have no newline
  pub after_next : (block : Text) (place : Span) → IsBlock block → (n : IsNext P (lines_of block) place) → All HasNoNewline n.after
  after_next block place whole n =
      let all = rw n.divided at (free_lines _ whole) in
      let others = rw (drop-append_seam n.before (n.line ∷ n.after)) at (All-drop HasNoNewline (length n.before) (n.before ++ n.line ∷ n.after) all) in
      all_tail n.line n.after others

  -- ---- how many there are

  -- lines without the property add none
  pub none_holds : (lines more : List Text) (n : ℕ) → All Not lines → HoldsOfMany P more n → HoldsOfMany P (lines ++ more) n
  none_holds [] more n none h = h
  none_holds (line ∷ lines) more n none h = (n, none_holds lines more n (All-tail Not line lines none) h, inr (All-head Not line lines none, refl))

  -- `count` lines of a block have it, and those of the rest besides
  pub record CountsTo (block rest : Text) (count : ℕ) : Type 0 where
    pub is_block : IsBlock rest
    pub few : count + length rest ≤ length block
    pub counts : (n : ℕ) → HoldsOfMany P (lines_of rest) n → HoldsOfMany P (lines_of block) (count + n)

  -- one more, and the rest is after it
  pub counts_next : (block rest : Text) (count : ℕ) (place : Span) → place.end < length rest → CountsTo block rest count → IsNext P (lines_of rest) place → CountsTo block (drop (place.end + 1) rest) (count + 1)
  counts_next block rest count place within c n =
      let is : drop (place.end + 1) rest ≡ terminated n.after = bytes_after_next rest place c.is_block n in
      let free = after_next rest place c.is_block n in
      let are : lines_of (drop (place.end + 1) rest) ≡ n.after = ap lines_of is ∙ lines_of-terminated n.after free in
      record {
        is_block = (n.after, free, is);
        few = omega (arith, length-drop (place.end + 1) rest);
        counts = λ m h.
            let one : HoldsOfMany P (n.line ∷ n.after) (m + 1) = (m, rw are at h, inl (n.holds, refl)) in
            let all : HoldsOfMany P (lines_of rest) (m + 1) = rw n.divided (none_holds _ _ _ n.passed one) in
            let grouped : count + (m + 1) ≡ count + 1 + m = omega arith in rw grouped at (c.counts (m + 1) all);
      }

  -- none more
  pub counts_all : (block rest : Text) (count : ℕ) → CountsTo block rest count → FindsNext P (lines_of rest) None → HoldsOfMany P (lines_of block) count
  counts_all block rest count c none =
      let no_more = rw (append-nil (lines_of rest)) at (none_holds _ [] 0 none refl) in
      let same : count + 0 ≡ count = omega arith in rw same at (c.counts 0 no_more)

-- ---- the same lines by another property

pub finds_same : (P Q : Text → Type 0) → ((line : Text) → P line → Q line) → ((line : Text) → Q line → P line) → (lines : List Text) (found : Option Span) → FindsNext P lines found → FindsNext Q lines found
finds_same P Q to from lines None none = λ k d below q. none k d below (from _ q)
finds_same P Q to from lines (Some place) n =
    record { before = n.before; line = n.line; after = n.after; divided = n.divided; passed = λ k d below q. n.passed k d below (from _ q); holds = to n.line n.holds; starts = n.starts; ends = n.ends }

-- lines that lack a text are passed
pub passed_without : (text block : Text) (start : ℕ) → PassesAll (Lacks text) block start → PassesAll (λ line. ¬ StandsIn text line) block start
passed_without text block start (lines, rest, free, lack, is, counted) = (lines, rest, free, λ i d below stands. lack i d below stands.0 stands.1, is, counted)
