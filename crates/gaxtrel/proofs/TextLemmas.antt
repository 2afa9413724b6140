-- The lines of a text are those of its whole lines and then the last one, if that lacks its newline.
use Rattle.{gaxtrel.proofs.Prelude.{◌≡◌, ◌∙◌, ℕ, ◌+◌, ◌-◌, ◌*◌, ◌<◌, ◌≤◌, List, [], ◌∷◌, ◌++◌, All, Option, Some, None, inl, inr, length, take, drop, refl, sym, ap, subst, arith, mul-le-mul_left, append_assoc, length-append, ⊤, take-append_seam, drop_all, length-take-le, take_rest, All-append, All-cons, All-nil, Text, HasNoNewline, ended_lines_of, newline, terminated, lines_of, Span, Steps, AddsAtMost, FindsNext, HoldsOfMany, IsBlock, IsNext, PassesAll, CountsSought, FindsSought, IsSought, Sought, FindsLine, bytes_to_next, line_cost, moved}, std.proofs.Common.length-drop, re_syntax.proofs.lemmas.{EndedLinesLaws.ended_lines_of-unique, LinesLaws.{lines_of-last, lines_of-terminated}, SplittingLaws.lines_of-empty}, re_meter.proofs.lemmas.Adding.{adds_both, adds_none, adds_within}, re_runs.proofs.lemmas.NextLines.{left_after, lines_of-beyond}, grep_core.proofs.lemmas.CountedLines.many_within}

-- ---- lines that are found and counted in a longer list

module _ (P : Text → Type 0) where
  found_before : (lines more : List Text) (at : Span) → IsNext P lines at → IsNext P (lines ++ more) at
  found_before lines more at n = record {
    before = n.before;
    line = n.line;
    after = n.after ++ more;
    divided = cc (n.divided, append_assoc n.before (n.line ∷ n.after) more);
    passed = n.passed;
    holds = n.holds;
    starts = n.starts;
    ends = n.ends;
  }

  found_last : (lines : List Text) (line : Text) (at : Span) → FindsNext P lines None → P line → at.start ≡ length (terminated lines) → at.end ≡ at.start + length line → IsNext P (lines ++ line ∷ []) at
  found_last lines line at none holds starts ends = record {
    before = lines;
    line = line;
    after = [];
    divided = refl;
    passed = none;
    holds = holds;
    starts = starts;
    ends = ends;
  }

  counted_before : (lines more : List Text) (n m : ℕ) → HoldsOfMany P lines n → HoldsOfMany P more m → HoldsOfMany P (lines ++ more) (n + m)
  counted_before [] more n m is h = let same : m ≡ n + m = omega arith in subst (HoldsOfMany P more) same h
  counted_before (line ∷ lines) more n m (others, counted, inl (holds, is)) h = (others + m, counted_before lines more _ m counted h, inl (holds, omega arith))
  counted_before (line ∷ lines) more n m (others, counted, inr (not, is)) h = (others + m, counted_before lines more _ m counted h, inr (not, omega arith))

-- there are no more lines than bytes
few_lines : (lines : List Text) → length lines ≤ length (terminated lines)
few_lines [] = omega arith
few_lines (t ∷ ts) = omega (arith, few_lines ts, length-append t (newline ∷ terminated ts))

-- a text without newline is one line, if it is not empty
one_line : (t : Text) → HasNoNewline t → 0 < length t → lines_of t ≡ t ∷ []
one_line [] free some = absurd (omega arith)
one_line (b ∷ t) free some = lines_of-last b t free

-- ---- a text whose whole lines end at a place

module _ (text : Text) (cut : ℕ) (passed : PassesAll (λ _. ⊤) text cut) where
  front_is : take cut text ≡ terminated passed.0
  front_is = cc (passed.5, passed.4, take-append_seam (terminated passed.0) passed.1)

  pub front_block : IsBlock (take cut text)
  front_block = (passed.0, passed.2, front_is)

  front_lines : lines_of (take cut text) ≡ passed.0
  front_lines = ap lines_of front_is ∙ lines_of-terminated passed.0 passed.2

  rest_is : drop cut text ≡ passed.1
  rest_is = left_after text passed.1 cut passed.0 passed.4 passed.5

  all_lines : lines_of text ≡ lines_of (take cut text) ++ lines_of (drop cut text)
  all_lines = ap lines_of passed.4 ∙ lines_of-beyond passed.0 passed.1 passed.2 ∙ ap (λ l. l ++ lines_of passed.1) (sym front_lines) ∙ ap (λ r. lines_of (take cut text) ++ lines_of r) (sym rest_is)

  pub cut_within : cut ≤ length text
  cut_within = omega (arith, passed.5, ap length passed.4, length-append (terminated passed.0) passed.1)

  pub whole_lines : HasNoNewline (drop cut text) → cut ≡ length (terminated (ended_lines_of text))
  whole_lines free = cc (passed.5, ended_lines_of-unique text passed.0 (passed.2, (passed.1, rw rest_is at free, passed.4)))

  -- there is no last line without newline
  all_ended : length text ≤ cut → lines_of text ≡ lines_of (take cut text) ++ []
  all_ended past = all_lines ∙ ap (λ l. lines_of (take cut text) ++ l) (lines_of-empty (drop cut text) (ap length (drop_all cut text past)))

  -- there is one
  and_last : HasNoNewline (drop cut text) → cut < length text → lines_of text ≡ lines_of (take cut text) ++ drop cut text ∷ []
  and_last free below = all_lines ∙ ap (λ l. lines_of (take cut text) ++ l) (one_line (drop cut text) free (omega (arith, below, length-drop cut text)))

  -- the whole lines are searched
  module _ (sought : Sought) where
    none_with : (rest : List Text) → lines_of text ≡ lines_of (take cut text) ++ rest → FindsSought sought (lines_of (take cut text)) None → All (λ line. ¬ IsSought sought line) rest → FindsSought sought (lines_of text) None
    none_with rest are none others = rw are (All-append (λ line. ¬ IsSought sought line) (lines_of (take cut text)) rest none others)

    counted_with : (rest : List Text) (n m : ℕ) → lines_of text ≡ lines_of (take cut text) ++ rest → CountsSought sought (lines_of (take cut text)) n → CountsSought sought rest m → CountsSought sought (lines_of text) (n + m)
    counted_with rest n m are counted others = rw are (counted_before (IsSought sought) _ rest n m counted others)

    pub next_in_front : (at : Span) → FindsSought sought (lines_of (take cut text)) (Some at) → FindsSought sought (lines_of text) (Some at)
    next_in_front at found = rw all_lines (found_before (IsSought sought) (lines_of (take cut text)) (lines_of (drop cut text)) at found)

    pub none_in_front : length text ≤ cut → FindsSought sought (lines_of (take cut text)) None → FindsSought sought (lines_of text) None
    none_in_front past none = none_with [] (all_ended past) none (All-nil (λ line. ¬ IsSought sought line))

    pub counts_front : (n : ℕ) → length text ≤ cut → CountsSought sought (lines_of (take cut text)) n → CountsSought sought (lines_of text) n
    counts_front n past counted = let same : n + 0 ≡ n = omega arith in rw same at (counted_with [] n 0 (all_ended past) counted refl)

    -- there are no more of them than bytes
    pub few_counted : (n : ℕ) → CountsSought sought (lines_of (take cut text)) n → n ≤ cut
    few_counted n counted = omega (arith, many_within (IsSought sought) (lines_of (take cut text)) n counted, ap length front_lines, few_lines passed.0, passed.5)

    -- the search takes no more than one search of the text
    pub front_cost : (old new : Steps) → AddsAtMost (length sought.expressions * length (take cut text)) old new → AddsAtMost (line_cost (length sought.expressions) text) old new
    front_cost old new few =
        let most = mul-le-mul_left (length sought.expressions) (omega (arith, cut_within, length-take-le cut text cut_within)) in
        adds_within _ _ _ _ old new most most few

    -- and then the last line
    module _ (now : Sought) (same : now ≡ sought) where
      abbrev pub last_line : Text
      last_line = take (length text - cut) (drop cut text)

      last_is : ◌≡◌ {A = Sought × Text} (now, last_line) (sought, drop cut text)
      last_is i = (same i, take_rest text cut i)

      last_sought : IsSought now last_line → IsSought sought (drop cut text)
      last_sought = subst (λ (p : Sought × Text). IsSought p.0 p.1) last_is

      last_unsought : (IsSought now last_line → ⊥) → ¬ IsSought sought (drop cut text)
      last_unsought not = subst (λ (p : Sought × Text). ¬ IsSought p.0 p.1) last_is not

      pub next_at_last : HasNoNewline (drop cut text) → cut < length text → FindsSought sought (lines_of (take cut text)) None → IsSought now last_line → FindsSought sought (lines_of text) (Some (record { start = cut; end = length text }))
      next_at_last free below none holds =
          let starts : cut ≡ length (terminated (lines_of (take cut text))) = passed.5 ∙ ap (λ l. length (terminated l)) (sym front_lines) in
          subst (λ l. IsNext (IsSought sought) l (record { start = cut; end = length text })) (sym (and_last free below))
          (found_last (IsSought sought) (lines_of (take cut text)) (drop cut text) (record { start = cut; end = length text }) none (last_sought holds) starts (omega (arith, below, length-drop cut text)))

      pub none_at_last : HasNoNewline (drop cut text) → cut < length text → FindsSought sought (lines_of (take cut text)) None → (IsSought now last_line → ⊥) → FindsSought sought (lines_of text) None
      none_at_last free below none not =
          none_with _ (and_last free below) none (All-cons (λ line. ¬ IsSought sought line) (drop cut text) [] (last_unsought not) (All-nil (λ line. ¬ IsSought sought line)))

      pub counts_last : (n : ℕ) → HasNoNewline (drop cut text) → cut < length text → IsSought now last_line → CountsSought sought (lines_of (take cut text)) n → CountsSought sought (lines_of text) (n + 1)
      counts_last n free below holds counted = counted_with _ n 1 (and_last free below) counted (0, refl, inl (last_sought holds, refl))

      pub counts_without : (n : ℕ) → HasNoNewline (drop cut text) → cut < length text → (IsSought now last_line → ⊥) → CountsSought sought (lines_of (take cut text)) n → CountsSought sought (lines_of text) n
      counts_without n free below not counted =
          let one : n + 0 ≡ n = omega arith in
          rw one at (counted_with _ n 0 (and_last free below) counted (0, refl, inr (last_unsought not, refl)))

      pub last_cost : (old mid new : Steps) → AddsAtMost (length sought.expressions * length (take cut text)) old mid → AddsAtMost (line_cost (length now.expressions) last_line) mid new → AddsAtMost (line_cost (length sought.expressions) text) old new
      last_cost old mid new first then =
          let n = length sought.expressions in
          let sum : cut + (length text - cut) ≡ length text = omega (arith, cut_within) in
          let front = length-take-le cut text cut_within in
          let rest : length last_line ≡ length text - cut = cc (take_rest text cut, length-drop cut text) in
          let both : length sought.expressions * length (take cut text) + length now.expressions * (length last_line + 1) ≡ n * (length text + 1) =
          (λ i. n * front i + length ((same i).expressions) * (rest i + 1)) ∙ grouped n cut (length text - cut) ∙ ap (λ k. n * (k + 1)) sum in
          rw both at (adds_both _ _ _ _ old mid new first then)
        where
          grouped : (k a b : ℕ) → k * a + k * (b + 1) ≡ k * (a + b + 1)
          grouped k a b = omega arith

-- past its end a text has no line
pub no_line_left : (P : Text → Type 0) (text : Text) (from : ℕ) → length text ≤ from → All (λ line. ¬ P line) (lines_of (drop from text))
no_line_left P text from past = rw (lines_of-empty (drop from text) (rw (drop_all from text past))) (All-nil (λ line. ¬ P line))

pub none_past : (sought : Sought) (text : Text) (from : ℕ) (steps : Steps) → length text ≤ from → FindsLine sought text from None steps steps
none_past sought text from steps past = record {
  found = None;
  finds = no_line_left (IsSought sought) _ _ past;
  is_place = refl;
  few = adds_none _ _ steps;
}

-- what is found in the rest of a text
pub line_found : (now sought : Sought) (text rest : Text) (from : ℕ) (found : Option Span) (old new : Steps) → now ≡ sought → rest ≡ drop from text → FindsSought now (lines_of rest) found
    → AddsAtMost (length now.expressions * bytes_to_next rest found) old new → FindsLine sought text from (moved from found) old new
line_found now sought text rest from found old new same is finds few = record {
  found = found;
  finds = subst (λ (p : Sought × Text). FindsSought p.0 (lines_of p.1) found) (λ i. (same i, is i)) finds;
  is_place = refl;
  few = subst (λ (p : Sought × Text). AddsAtMost (length (p.0).expressions * bytes_to_next p.1 found) old new) (λ i. (same i, is i)) few;
}
