-- Lines of a block in which something does not begin, as a run of sets or a text.
use Rattle.{re_runs.proofs.{Prelude.{◌≡◌, ℕ, ◌+◌, ◌<◌, ◌≤◌, List, [], ◌∷◌, ◌++◌, All, Some, None, length, map, take, drop, refl, sym, ap, ◌∙◌, arith, append_assoc, append-nil, length-append, length-take, take-append-drop, ⊤, Text, only, newline, terminated, HasNoNewline, ended_lines_of, FindsNeedle, IsBlock, Lacks, PassesAll, Runs, one_run, RunStandsAt, FindsRun, LacksRun, length_push, All-push, All-nil, All-cons}, lemmas.RunLaws.{stands_within, run_before, run_after, text_run, finds_text}}, re_trees.proofs.lemmas.{LinesLaws.{all_none, terminated-append}, EndedLinesLaws.AreEndedLines-ended_lines_of}}

-- ---- where lines begin

-- a text and a newline after it are whole lines
pub ended_text : (t : Text) → IsBlock (t ++ newline ∷ [])
ended_text t =
    let ended = AreEndedLines-ended_lines_of t in let lines = ended_lines_of t in
    let rest : Text = ended.1.0 in (
      lines ++ rest ∷ [],
      All-push HasNoNewline lines rest ended.0 ended.1.1,
      ap (λ l. l ++ newline ∷ []) ended.1.2 ∙ append_assoc (terminated lines) rest (newline ∷ []) ∙ sym (terminated-append lines (rest ∷ [])),
    )

-- ---- what begins in a line begins in a block

-- something that may begin at places of a text
module _ (Begins : Text → ℕ → Type 0) (within : (line : Text) (k : ℕ) → Begins line k → k ≤ length line)
    (before : (line after : Text) (k : ℕ) → Begins line k → Begins (line ++ after) k) (beyond : (front line : Text) (k : ℕ) → Begins line k → Begins (front ++ line) (length front + k)) where
  -- it begins nowhere in the line
  abbrev pub Free : Text → Type 0
  Free line = (k : ℕ) → ¬ Begins line k

  -- where it does not begin in the first lines of a block it does in none of them
  lines_free : (lines : List Text) (rest : Text) → ((k : ℕ) → k < length (terminated lines) → ¬ Begins (terminated lines ++ rest) k) → All Free lines
  lines_free [] rest none = All-nil Free
  lines_free (t ∷ ts) rest none = All-cons Free t ts first (lines_free ts rest later)
    where
      long : length (terminated (t ∷ ts)) ≡ length t + 1 + length (terminated ts)
      long = omega (arith, length-append t (newline ∷ terminated ts))

      first : Free t
      first k o =
          let inside = within t k o in
          none k (omega (arith, long)) (rw (append_assoc t (newline ∷ terminated ts) rest) (before t (newline ∷ terminated ts ++ rest) k o))

      cut : (t ++ newline ∷ []) ++ (terminated ts ++ rest) ≡ terminated (t ∷ ts) ++ rest
      cut = append_assoc t (newline ∷ []) (terminated ts ++ rest) ∙ sym (append_assoc t (newline ∷ terminated ts) rest)

      later : (k : ℕ) → k < length (terminated ts) → ¬ Begins (terminated ts ++ rest) k
      later k below o = none (length (t ++ newline ∷ []) + k) (omega (arith, long, length-append t (newline ∷ []))) (rw cut at (beyond (t ++ newline ∷ []) (terminated ts ++ rest) k o))

  -- a block in which it begins nowhere is passed as a whole
  pub passes_free_block : (block : Text) → IsBlock block → ((k : ℕ) → k < length block → ¬ Begins block k) → PassesAll Free block (length block)
  passes_free_block block (lines, free, is) none =
      let all = append-nil (terminated lines) ∙ sym is in
      let nowhere : (k : ℕ) → k < length (terminated lines) → ¬ Begins (terminated lines ++ []) k =
      λ k below o. none k (omega (arith, ap length is)) (rw all at o) in
      (lines, [], free, lines_free _ [] nowhere, sym all, ap length is)

  -- the lines before the one in which it begins first are passed
  pub passes_free_front : (block : Text) (at count : ℕ) → at ≤ length block → ((k : ℕ) → k < at → ¬ Begins block k) → PassesAll (λ _. ⊤) (take at block) count → PassesAll Free block count
  passes_free_front block at count inside none (lines, rest, free, any, is, counted) =
      let low : length (terminated lines) ≤ at = omega (arith, ap length is, length-append (terminated lines) rest, length-take at block) in
      let all =
      sym (append_assoc (terminated lines) rest (drop at block)) ∙ ap (λ l. l ++ drop at block) (sym is) ∙ take-append-drop at block in
      let nowhere : (k : ℕ) → k < length (terminated lines) → ¬ Begins (terminated lines ++ (rest ++ drop at block)) k =
      λ k below o. none k (omega arith) (rw all at o) in
      (lines, rest ++ drop at block, free, lines_free _ _ nowhere, sym all, counted)

-- ---- lines that are passed

-- no line is passed
pub passes_none : (Holds : Text → Type 0) (bytes : Text) → PassesAll Holds bytes 0
passes_none Holds bytes = ([], bytes, all_none, All-nil Holds, refl, refl)

-- after a newline a line begins
pub passes_after : (bytes : Text) (at : ℕ) → at < length bytes → bytes ≡ take at bytes ++ newline ∷ drop (at + 1) bytes → PassesAll (λ _. ⊤) bytes (at + 1)
passes_after bytes at below cut =
    let front = ended_text (take at bytes) in
    let lines : List Text = front.0 in (
      lines,
      drop (at + 1) bytes,
      front.1,
      λ i d h. tt,
      cut ∙ sym (append_assoc (take at bytes) (newline ∷ []) (drop (at + 1) bytes)) ∙ ap (λ l. l ++ drop (at + 1) bytes) front.2,
      omega (arith, ap length front.2, length_push (take at bytes) newline, length-take at bytes),
    )

-- ---- where a run is

-- a block without the run is passed as a whole
pub passes_whole_run : (run : Runs) (block : Text) → IsBlock block → FindsRun block run None → PassesAll (LacksRun run) block (length block)
passes_whole_run run block whole none = passes_free_block (λ l k. RunStandsAt l run k) (λ l k o. stands_within l run k o) (run_before run) (run_after run) block whole (λ k below o. none k (omega arith) (omega arith) o)

-- the lines before the first one with the run are passed
pub passes_front_run : (run : Runs) (block : Text) (at count : ℕ) → FindsRun block run (Some at) → PassesAll (λ _. ⊤) (take at block) count → PassesAll (LacksRun run) block count
passes_front_run run block at count (first, stands) front =
    let inside : at ≤ length block = omega (arith, first.high) in
    passes_free_front (λ l k. RunStandsAt l run k) (λ l k o. stands_within l run k o) (run_before run) (run_after run) block at count inside (λ k below o. first.before k (omega arith) below o) front

-- a line that lacks the run of a text lacks the text
pub passes_text : (text block : Text) (count : ℕ) → PassesAll (LacksRun (one_run (map only text))) block count → PassesAll (Lacks text) block count
passes_text text block count (lines, rest, free, lack, is, counted) = (lines, rest, free, λ i d below k o. lack i d below k (text_run _ _ k o), is, counted)

pub passes_whole : (text block : Text) → IsBlock block → FindsNeedle block text 0 None → PassesAll (Lacks text) block (length block)
passes_whole text block is none = passes_text _ _ _ (passes_whole_run (one_run (map only text)) _ is (finds_text block text None none))

pub passes_front : (text block : Text) (at count : ℕ) → FindsNeedle block text 0 (Some at) → PassesAll (λ _. ⊤) (take at block) count → PassesAll (Lacks text) block count
passes_front text block at count finds front = passes_text _ _ _ (passes_front_run (one_run (map only text)) _ _ _ (finds_text block text (Some at) finds) front)

-- ---- the first lines of a block

-- lines that are passed end within the block
pub passed_within : (Holds : Text → Type 0) (block : Text) (count : ℕ) → PassesAll Holds block count → count ≤ length block
passed_within Holds block count (lines, rest, free, any, is, counted) = omega (arith, ap length is, length-append (terminated lines) rest)
