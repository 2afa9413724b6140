-- The matched lines of a text, one more at a time.
use Rattle.{gaxtrel.proofs.{Prelude.{◌≡◌, ◌∙◌, ℕ, suc, ◌+◌, ◌*◌, ◌-◌, ◌^◌, ◌<◌, ◌≤◌, ◌⊎◌, List, [], ◌∷◌, ◌++◌, All, inl, inr, length, min, mul-le-mul_left, take, drop, set, refl, sym, ap, subst, arith, cases_eq, All-head, All-tail, drop-drop, length-drop, length-set, take_all, take_more_set, take-append-add, drop-append-add, Text, HasNoNewline, newline, terminated, lines_of, Span, AddsAtMost, Steps, IsNext, IsSought, Sought, AreLines, PutsLines, after_lines, line_at, GaxtrelLine}, ArrayLemmas.{PutSoFar, all_put, less_left, none_put, one_put, put_full}}, std.proofs.lemmas.List.length-append, re_trees.proofs.lemmas.{LinesLaws.{lines_of-line, lines_of-last, none_before, none_in_empty, all_cons, all_none}, Decisions.dec_any, SplittingLaws.lines_of-empty, HoldsDecided.dec_matches}, re_meter.proofs.lemmas.Adding.{adds_both, adds_within}}

-- ---- the first lines of a text

-- a text has no newline, or a first one
cut : (t : Text) → HasNoNewline t ⊎ ((line : Text) × (rest : Text) × HasNoNewline line × (t ≡ line ++ newline ∷ rest))
cut [] = inl none_in_empty
cut (b ∷ t) = elim (cases_eq b newline) [
  | inl is ↦ inr ([], t, none_in_empty, ap (λ n. n ∷ t) is)
  | inr other ↦ elim (cut t) [
    | inl free ↦ inl (none_before b t other free)
    | inr (line, rest, free, is) ↦ inr (b ∷ line, rest, none_before b line other free, ap (λ l. b ∷ l) is)
  ]
]

-- after its first line a newline follows, or nothing
first : (t line : Text) (after : List Text) → lines_of t ≡ line ∷ after → ((rest : Text) × HasNoNewline line × (t ≡ line ++ newline ∷ rest) × (lines_of rest ≡ after)) ⊎ ((t ≡ line) × (after ≡ []))
unfolding lines_of
first [] line after are = absurd (cc are)
first (b ∷ t) line after are = elim (cut (b ∷ t)) [
  | inl free ↦ (let one = sym (lines_of-last b t free) ∙ are in inr ((cc one), (cc one)))
  | inr (l, rest, free, is) ↦
      (let both = sym (ap lines_of is ∙ lines_of-line l rest free) ∙ are in
      let same : l ≡ line = cc both in
      inl (rest, rw same at free, is ∙ ap (λ k. k ++ newline ∷ rest) same, (cc both)))
]

-- a text is divided where its first lines end, and after the next line
divided : (before : List Text) (line : Text) (after : List Text) (t : Text) → lines_of t ≡ before ++ line ∷ after
    → All HasNoNewline before × (take (length (terminated before)) t ≡ terminated before) × (lines_of (drop (length (terminated before) + (length line + 1)) t) ≡ after)
divided [] line after t are = (all_none, refl, ap (λ n. lines_of (drop n t)) (let e : 0 + (length line + 1) ≡ length line + 1 = omega arith in e) ∙ next (first t line after are))
  where
    next : ((rest : Text) × HasNoNewline line × (t ≡ line ++ newline ∷ rest) × (lines_of rest ≡ after)) ⊎ ((t ≡ line) × (after ≡ [])) → lines_of (drop (length line + 1) t) ≡ after
    next (inl (rest, free, is, left)) = ap (λ l. lines_of (drop (length line + 1) l)) is ∙ ap lines_of (drop-append-add line (newline ∷ rest) 1) ∙ left
    next (inr (is, none)) = lines_of-empty _ (let past : length (drop (length line + 1) t) ≡ 0 = omega (arith, length-drop (length line + 1) t, ap length is) in past) ∙ sym none
divided (b ∷ before) line after t are = elim (first t b (before ++ line ∷ after) are) [
  | inl (rest, free, is, left) ↦
      (let (frees, front, behind) = divided before line after rest left in
      let ends = terminated before in
      let k = length ends + (length line + 1) in
      let long = length-append b (newline ∷ ends) in
      let far : length (b ++ newline ∷ ends) + (length line + 1) ≡ length b + suc k = omega arith in (
        all_cons b before free frees,
        (λ i. take (long i) (is i)) ∙ take-append-add b (newline ∷ rest) (suc (length ends)) ∙ ap (λ l. b ++ newline ∷ l) front,
        ap lines_of ((λ i. drop (far i) (is i)) ∙ drop-append-add b (newline ∷ rest) (suc k)) ∙ behind,
      ))
  | inr (is, none) ↦ absurd (omega (arith, ap length none, length-append before (line ∷ after)))
]

module _ (sought : Sought) where
  -- the next one, after lines that are not matched
  pub then_line : (before : List Text) (line : Text) (after : List Text) (at number start end n : ℕ) (more : List GaxtrelLine) → All (λ l. ¬ IsSought sought l) before → IsSought sought line
      → start ≡ at + length (terminated before) → end ≡ start + length line → n ≡ number + length before → AreLines sought after (end + 1) (n + 1) more → AreLines sought (before ++ line ∷ after) at number (line_at start end n ∷ more)
  then_line [] line after at number start end n more none holds starts ends counted are =
      let e : end ≡ at + length line = omega arith in
      let s : start ≡ at = omega arith in
      let k : n ≡ number = omega arith in
      inl (holds, (more, (λ i. line_at (s i) (e i) (k i) ∷ more), subst (λ (p : ℕ × ℕ). AreLines sought after (p.0 + 1) (p.1 + 1) more) (λ i. (e i, k i)) are))
  then_line (b ∷ before) line after at number start end n more none holds starts ends counted are =
      inr (All-head (λ l. ¬ IsSought sought l) b before none, then_line before line after _ _ start end n more (All-tail (λ l. ¬ IsSought sought l) b before none) holds (omega (arith, length-append b (newline ∷ terminated before))) ends (omega arith) are)

  -- there are all of them
  pub lines_exist : (lines : List Text) (at number : ℕ) → (all : List GaxtrelLine) × AreLines sought lines at number all
  lines_exist [] at number = ([], refl)
  lines_exist (line ∷ lines) at number =
      let (more, are) = lines_exist lines (at + length line + 1) (number + 1) in
      elim (dec_any _ (λ e. dec_matches e line sought.whole) sought.expressions) [
        | yes holds ↦ (line_at at (at + length line) number ∷ more, inl (holds, (more, refl, are)))
        | no not ↦ (more, inr (not, are))
      ]

  -- none is left
  pub no_line : (lines : List Text) (at number : ℕ) → All (λ l. ¬ IsSought sought l) lines → AreLines sought lines at number []
  no_line [] at number none = refl
  no_line (line ∷ lines) at number none = inr (All-head (λ l. ¬ IsSought sought l) line lines none, no_line lines _ _ (All-tail (λ l. ¬ IsSought sought l) line lines none))

-- after one line more
after_more : (from : ℕ) (lines : List GaxtrelLine) (line : GaxtrelLine) → after_lines from (lines ++ line ∷ []) ≡ line.end + 1
after_more from [] line = refl
after_more from (l ∷ lines) line = after_more (l.end + 1) lines line

module _ (sought : Sought) (text : Text) (from number : ℕ) where
  -- the first matched lines were found and written over an array, up to a place where a line with a number begins
  pub record LinesSoFar (at n count : ℕ) (old now : List GaxtrelLine) : Type 0 where
    pub before : ℕ
    pub numbered : n ≡ min (number + before) (2 ^ 64 - 1)
    pub found : PutSoFar (AreLines sought (lines_of (drop from text)) from number) (AreLines sought (lines_of (drop at text)) at (number + before)) count old now
    pub low : from ≤ at
    pub near : at - from ≤ length text - from + 1
    pub fits : count ≤ length now
    pub after : at ≡ after_lines from (take count now)

  pub begun : (old : List GaxtrelLine) → number < 2 ^ 64 → LinesSoFar from number 0 old old
  begun old fits = record {
    before = 0;
    numbered = omega (arith, fits);
    found = less_left none_put (λ more are. rw (let e : number + 0 ≡ number = omega arith in e) at are);
    low = omega arith;
    near = omega arith;
    fits = omega arith;
    after = refl;
  }

  module _ {at n count : ℕ} {old mid : List GaxtrelLine} (s : LinesSoFar at n count old mid) where
    -- one line more, which is found in what is left of the text
    pub one_line : (next : Span) → IsNext (IsSought sought) (lines_of (drop at text)) next → (lines : ℕ) → ((ts : List Text) → All HasNoNewline ts → take next.start (drop at text) ≡ terminated ts → lines ≡ length ts)
        → at ≤ length text → next.end ≤ length (drop at text) → count < length mid → (here after : ℕ) (now : List GaxtrelLine) → here ≡ min (n + lines) (2 ^ 64 - 1) → after ≡ min (here + 1) (2 ^ 64 - 1)
        → now ≡ set mid count (record { start = at + next.start; end = at + next.end; number = here }) → LinesSoFar (at + (next.end + 1)) after (count + 1) old now
    one_line next x lines counted here within below k after now is_here is_after put =
        let (frees, front, behind) = divided x.before x.line x.after (drop at text) x.divided in
        let passes : lines ≡ length x.before = counted x.before frees (ap (λ w. take w (drop at text)) x.starts ∙ front) in
        let m = number + s.before + lines in
        let is : k ≡ min m (2 ^ 64 - 1) = omega (arith, s.numbered) in
        let past : next.end + 1 ≡ length (terminated x.before) + (length x.line + 1) = omega (arith, x.starts, x.ends) in
        let left : lines_of (drop (at + (next.end + 1)) text) ≡ x.after = ap lines_of (sym (drop-drop (next.end + 1) at text) ∙ ap (λ w. drop w (drop at text)) past) ∙ behind in
        let end : at + (next.end + 1) ≡ at + next.end + 1 = omega arith in
        let one : number + (s.before + lines + 1) ≡ m + 1 = omega arith in
        let written : now ≡ set mid count (line_at (at + next.start) (at + next.end) m) = put ∙ ap (λ w. set mid count (record { start = at + next.start; end = at + next.end; number = w })) is in
        record {
          before = s.before + lines + 1;
          numbered = omega arith;
          found = one_put s.found (λ more are. subst (λ l. AreLines sought l at (number + s.before) (line_at (at + next.start) (at + next.end) m ∷ more)) (sym x.divided)
              (then_line sought x.before x.line x.after at (number + s.before) (at + next.start) (at + next.end) m more x.passed x.holds (omega (arith, x.starts)) (omega (arith, x.ends)) (omega (arith, passes))
              (subst (λ (p : List Text × ℕ × ℕ). AreLines sought p.0 p.1 p.2 more) (λ i. (left i, end i, one i)) are))) written;
          low = omega (arith, s.low);
          near = omega (arith, length-drop at text);
          fits = omega (arith, ap length written, length-set mid count (line_at (at + next.start) (at + next.end) m));
          after = end ∙ sym (ap (λ l. after_lines from (take (count + 1) l)) written ∙ ap (after_lines from) (take_more_set mid count _ below) ∙ after_more from (take count mid) _);
        }

    module _ (begun : Steps) where
      -- a search more was made
      pub searched : (k : ℕ) (middle ended : Steps) → AddsAtMost (length sought.expressions * (at - from)) begun middle → AddsAtMost (length sought.expressions * k) middle ended → AddsAtMost (length sought.expressions * (at + k - from)) begun ended
      searched k middle ended few more =
          let p = length sought.expressions in
          let sum : p * (at - from) + p * k ≡ p * (at + k - from) = omega (arith, ap (λ m. p * m) (let e : at - from + k ≡ at + k - from = omega (arith, s.low) in e)) in
          rw sum at (adds_both _ _ _ _ begun middle ended few more)

      -- no more than the text
      pub within_text : (k : ℕ) (ended : Steps) → k ≤ length text - from + 1 → AddsAtMost (length sought.expressions * k) begun ended → AddsAtMost (length sought.expressions * (length (drop from text) + 1)) begun ended
      within_text k ended within few =
          let most = mul-le-mul_left (length sought.expressions) (let w : k ≤ length (drop from text) + 1 = omega (arith, length-drop from text) in w) in
          adds_within _ _ _ _ begun ended most most few

      module _ (long : length mid ≡ length old) (ended : Steps) where
        -- no line is left
        pub no_more : count < length mid → All (λ l. ¬ IsSought sought l) (lines_of (drop at text)) → AddsAtMost (length sought.expressions * (length (drop from text) + 1)) begun ended → PutsLines sought text from number old mid count begun ended
        no_more below none few =
            let (all, are, counted, put) = all_put s.found (no_line sought (lines_of (drop at text)) at (number + s.before) none) in
            record { all = all; are = are; counted = omega arith; put = put; few = few; fewer = λ full. absurd (omega arith) }

        -- no room is left
        pub no_room : length mid ≤ count → AddsAtMost (length sought.expressions * (at - from)) begun ended → PutsLines sought text from number old mid count begun ended
        no_room full few =
            let (more, are) = lines_exist sought (lines_of (drop at text)) at (number + s.before) in
            let done = s.found.done in
            record {
              all = done ++ more;
              are = s.found.goes_on more are;
              counted = omega (arith, s.fits, s.found.counted, length-append done more);
              put = s.found.written ∙ sym (put_full done more old (omega (arith, s.found.counted)));
              few = within_text _ _ s.near few;
              fewer = λ _. subst (λ k. AddsAtMost (length sought.expressions * (k - from)) begun ended) (s.after ∙ ap (after_lines from) (take_all count mid full)) few;
            }
