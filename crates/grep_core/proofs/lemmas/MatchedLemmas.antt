-- The selected lines of a block, which are written as they are.
use Rattle.{grep_core.{proofs.{Prelude.{◌≡◌, ℕ, ◌+◌, ◌-◌, ◌*◌, false≢true, AddsAtMost, Numbered, IsNextOf, TakesHeld, StopsHeld, most_lines, writer, ◌<◌, ◌≤◌, Bool, true, false, List, [], ◌∷◌, ◌++◌, All, Option, length, take, drop, slice_range, refl, sym, ap, ◌∙◌, arith, inl, inr, append_assoc, append-nil, length-append, length-drop, take-append_seam, drop-drop, All-head, All-tail, Text, newline, terminated, lines_of, HasNoNewline, Expression, Span, IsBlock, IsNext, Sought, IsSought, Options, Selected, Chosen, colon, head, form, shown_number, name_shown, written, IsBare, RowsOfSelected, RowsOfLines, GoesOut, StopsWithin}, lemmas.{PassedLines.block_spent, WrittenLemmas.{TakesAll-written, TakesFront-written}, CostLaws.{cost_within, cost_after}, ChooseLaws.{Chosen-exist, EachGives-append}, RowLemmas.{stops_early, stops_later}, Verdicts.{decided_yes, decided_no}, SearchedBlockLemmas.{before_bytes, line_with_newline, lines_within}}}, specs.declared.status.SearchFault.TheVariants.Write}, re_syntax.proofs.lemmas.{LinesLaws.{lines_of-terminated, terminated-append}, Decisions.dec_any, HoldsDecided.dec_matches}, re_search.{proofs.lemmas.NextLines.{block_lines, free_lines, bytes_after_next, after_next}, specs.Meters.Steps}, grep_io.{specs.declared.input.lines.Stage.TheVariants.Ended, proofs.lemmas.WindowBlocks.joined_range}}

regroup : (s x a l m : Text) → (s ++ (x ++ a)) ++ (l ++ m) ≡ ((s ++ x) ++ (a ++ l)) ++ m
regroup s x a l m = ap (λ t. t ++ (l ++ m)) (sym (append_assoc s x a)) ∙ append_assoc (s ++ x) a (l ++ m) ∙ ap (λ t. (s ++ x) ++ t) (sym (append_assoc a l m)) ∙ sym (append_assoc (s ++ x) (a ++ l) m)

module _ (P : Text → Type 0) where
  -- no line is chosen
  none_chosen : (ls : List Text) → All (λ line. ¬ P line) ls → Chosen P ls []
  none_chosen [] none = refl
  none_chosen (l ∷ ls) none = ([], [], inr (All-head (λ line. ¬ P line) l ls none, refl), none_chosen ls (All-tail (λ line. ¬ P line) l ls none), refl)

  -- of the lines before the place `start`, `count` are chosen; their bytes are some, and the block's
  -- from `run` on
  pub record RunsTo (block : Text) (run start count : ℕ) (sent : Text) : Type 0 where
    pub is_block : IsBlock (drop start block)
    pub low : run ≤ start
    pub within : start ≤ length block
    pub few : count ≤ start
    pub goes_on : (more : List Text) → Chosen P (lines_of (drop start block)) more → (all : List Text) × Chosen P (lines_of block) all × (terminated all ≡ (sent ++ slice_range block run start) ++ terminated more) × (length all ≡ count + length more)

  -- one more is, and the lines before it are not; so far as the bytes before it don't lead to it, they
  -- are sent
  pub runs_next : {block sent : Text} {run start count : ℕ} → RunsTo block run start count sent → (at : Span) → at.end < length (drop start block) → IsNext P (lines_of (drop start block)) at
      → (next : ℕ) (x : Text) → next ≤ start + at.start → x ++ slice_range block next (start + at.start) ≡ slice_range block run start → RunsTo block next (start + (at.end + 1)) (count + 1) (sent ++ x)
  runs_next {block} {sent} {run} {start} {count} s at below n next x low cut = record {
    is_block = (n.after, free, left ∙ after);
    low = omega (arith, low, n.ends);
    within = omega (arith, below, length-drop start block, s.within);
    few = omega (arith, s.few);
    goes_on = λ more c.
        let others = rw (ap lines_of (left ∙ after) ∙ lines_of-terminated n.after free) at c in
        let here : Chosen P (lines_of (drop start block)) (n.line ∷ more) = rw n.divided
        (EachGives-append _ n.before (n.line ∷ n.after) [] (n.line ∷ more) (none_chosen _ n.passed) (n.line ∷ [], more, inl (n.holds, refl), others, refl)) in
        let (all, are, bytes, long) = s.goes_on (n.line ∷ more) here in (
          all,
          are,
          bytes ∙ ap (λ t. (sent ++ t) ++ (n.line ++ newline ∷ terminated more)) (sym cut) ∙ ap (λ t. (sent ++ (x ++ slice_range block next (start + at.start))) ++ t) (sym (append_assoc n.line (newline ∷ []) (terminated more)))
              ∙ regroup sent x (slice_range block next (start + at.start)) (n.line ++ newline ∷ []) (terminated more)
              ∙ ap (λ t. ((sent ++ x) ++ t) ++ terminated more) (ap (λ t. slice_range block next (start + at.start) ++ t) (sym line) ∙ joined_range block next (start + at.start) (start + (at.end + 1)) low (omega (arith, n.ends))),
          omega (arith, long),
        );
  }
    where
      free : All HasNoNewline n.after
      free = after_next P (drop start block) at s.is_block n

      after : drop (at.end + 1) (drop start block) ≡ terminated n.after
      after = bytes_after_next P (drop start block) at s.is_block n

      left : drop (start + (at.end + 1)) block ≡ drop (at.end + 1) (drop start block)
      left = sym (drop-drop (at.end + 1) start block)

      line : slice_range block (start + at.start) (start + (at.end + 1)) ≡ n.line ++ newline ∷ []
      line =
          let wide : start + (at.end + 1) - (start + at.start) ≡ length (n.line ++ newline ∷ []) = omega (arith, n.ends, length-append n.line (newline ∷ [])) in
          ap (λ k. take k (drop (start + at.start) block)) wide ∙ ap (take (length (n.line ++ newline ∷ []))) (sym (drop-drop at.start start block) ∙ line_with_newline P (drop start block) at s.is_block n)
          ∙ take-append_seam (n.line ++ newline ∷ []) (terminated n.after)

  -- no more are
  pub runs_out : {block sent : Text} {run start count : ℕ} → RunsTo block run start count sent → All (λ line. ¬ P line) (lines_of (drop start block)) → (all : List Text) × Chosen P (lines_of block) all × (sent ++ slice_range block run start ≡ terminated all) × (count ≡ length all)
  runs_out {block} {sent} {run} {start} s none =
      let (all, are, bytes, long) = s.goes_on [] (none_chosen _ none) in
      (all, are, sym (bytes ∙ append-nil (sent ++ slice_range block run start)), omega (arith, long))

-- a write failed in a run of them
pub run_stops : {W : Type 0} {contents : W → Option Text} {failures : W → ℕ} (s : Sought) {block sent : Text} {run start count : ℕ} {a b c : W} → RunsTo (IsSought s) block run start count sent → GoesOut contents failures a b sent → StopsWithin contents failures b c (slice_range block run start)
    → (all : List Text) × Chosen (IsSought s) (lines_of block) all × StopsWithin contents failures a c (terminated all)
run_stops {contents = contents} {failures = failures} s {block} {sent} {run} {start} {a = a} {b = b} {c = c} runs went stopped =
    let (more, chosen) = Chosen-exist (IsSought s) (λ line. dec_any _ (λ e. dec_matches e line s.whole) s.expressions) (lines_of (drop start block)) in
    let (all, are, bytes, long) = runs.goes_on more chosen in
    (all, are, rw bytes (stops_early contents failures a c (sent ++ slice_range block run start) (terminated more) (stops_later contents failures a b c sent (slice_range block run start) went stopped)))

-- of the lines before the place `start` those that P holds for were sent; `left` is the number of these and of the lines after them
pub record SentTo (P : Text → Type 0) (block : Text) (start left : ℕ) (sent : Text) : Type 0 where
  pub is_block : IsBlock (drop start block)
  pub within : start ≤ length block
  pub enough : length (lines_of (drop start block)) ≤ left
  pub goes_on : (more : List Text) → Chosen P (lines_of (drop start block)) more
      → (all : List Text) × Chosen P (lines_of block) all × (terminated all ≡ sent ++ terminated more) × (length all + length (lines_of (drop start block)) ≡ left + length more)

module _ (Q : Text → Type 0) where
  abbrev Other : Text → Type 0
  Other line = Q line → ⊥

  dec_other : {A : Type 0} → Dec A → Dec (A → ⊥)
  dec_other (yes a) = no (λ f. f a)
  dec_other (no f) = yes f

  -- all lines are chosen
  all_chosen : (ls : List Text) → All Other ls → Chosen Other ls ls
  all_chosen [] all = refl
  all_chosen (l ∷ ls) all = (l ∷ [], ls, inl (All-head Other l ls all, refl), all_chosen ls (All-tail Other l ls all), refl)

  module _ {block sent : Text} {start left : ℕ} (s : SentTo Other block start left sent) where
    module _ (at : Span) (n : IsNext Q (lines_of (drop start block)) at) where
      before : slice_range block start (start + at.start) ≡ terminated n.before
      before =
          let wide : start + at.start - start ≡ at.start = omega arith in
          ap (λ k. take k (drop start block)) wide ∙ before_bytes Q (drop start block) at s.is_block n

      -- those before the next one are, and that one isn't
      chosen_before : (more : List Text) → Chosen Other n.after more → Chosen Other (lines_of (drop start block)) (n.before ++ more)
      chosen_before more c = rw n.divided (EachGives-append _ n.before (n.line ∷ n.after) n.before more (all_chosen n.before n.passed) ([], more, inr (λ out. out n.holds, refl), c, refl))

      pub sent_next : at.end < length (drop start block) → SentTo Other block (start + (at.end + 1)) (left - 1) (sent ++ slice_range block start (start + at.start))
      sent_next below =
          let free = after_next Q (drop start block) at s.is_block n in
          let after = sym (drop-drop (at.end + 1) start block) ∙ bytes_after_next Q (drop start block) at s.is_block n in
          let rest : lines_of (drop (start + (at.end + 1)) block) ≡ n.after = ap lines_of after ∙ lines_of-terminated n.after free in
          let fewer : length (lines_of (drop start block)) ≡ length n.before + (length n.after + 1) = omega (arith, ap length n.divided, length-append n.before (n.line ∷ n.after)) in
          record {
            is_block = (n.after, free, after);
            within = omega (arith, below, length-drop start block, s.within);
            enough = omega (arith, s.enough, fewer, ap length rest);
            goes_on = λ more c.
                let (all, are, bytes, long) = s.goes_on (n.before ++ more) (chosen_before more (rw rest at c)) in (
                  all,
                  are,
                  bytes ∙ ap (λ t. sent ++ t) (terminated-append n.before more) ∙ sym (append_assoc sent (terminated n.before) (terminated more)) ∙ ap (λ t. (sent ++ t) ++ terminated more) (sym before),
                  omega (arith, long, length-append n.before more, fewer, ap length rest, s.enough),
                );
          }

    -- all others are
    pub sent_out : All Other (lines_of (drop start block)) → (all : List Text) × Chosen Other (lines_of block) all × (sent ++ drop start block ≡ terminated all) × (left ≡ length all)
    sent_out none =
        let (all, are, bytes, long) = s.goes_on (lines_of (drop start block)) (all_chosen _ none) in
        (all, are, ap (λ t. sent ++ t) (block_lines (drop start block) s.is_block) ∙ sym bytes, omega (arith, long))

    -- a write failed in bytes that more of them begin with
    module _ {W : Type 0} {contents : W → Option Text} {failures : W → ℕ} {a b c : W} (went : GoesOut contents failures a b sent) where
      stops_in : (more : List Text) → Chosen Other (lines_of (drop start block)) more → (x z : Text) → terminated more ≡ x ++ z → StopsWithin contents failures b c x → (all : List Text) × Chosen Other (lines_of block) all × StopsWithin contents failures a c (terminated all)
      stops_in more chosen x z is stopped =
          let (all, are, bytes, long) = s.goes_on more chosen in
          (all, are, rw (bytes ∙ ap (λ t. sent ++ t) is ∙ sym (append_assoc sent x z)) (stops_early contents failures a c (sent ++ x) z (stops_later contents failures a b c sent x went stopped)))

      pub sent_stops_at_end : All Other (lines_of (drop start block)) → StopsWithin contents failures b c (drop start block) → (all : List Text) × Chosen Other (lines_of block) all × StopsWithin contents failures a c (terminated all)
      sent_stops_at_end none stopped = stops_in (lines_of (drop start block)) (all_chosen _ none) (drop start block) [] (sym (block_lines (drop start block) s.is_block) ∙ sym (append-nil (drop start block))) stopped

      pub sent_stops : (at : Span) → IsNext Q (lines_of (drop start block)) at → ((line : Text) → Dec (Q line)) → StopsWithin contents failures b c (slice_range block start (start + at.start)) → (all : List Text) × Chosen Other (lines_of block) all × StopsWithin contents failures a c (terminated all)
      sent_stops at n decided stopped =
          let (more, chosen) = Chosen-exist Other (λ line. dec_other (decided line)) n.after in
          stops_in (n.before ++ more) (chosen_before at n more chosen) _ (terminated more) (terminated-append n.before more ∙ ap (λ t. t ++ terminated more) (sym (before at n))) stopped

pub others_stop : {W : Type 0} {contents : W → Option Text} {failures : W → ℕ} (s : Sought) {block sent : Text} {start left : ℕ} {a b c : W} → SentTo (λ line. IsSought s line → ⊥) block start left sent → GoesOut contents failures a b sent
    → (at : Span) → IsNext (IsSought s) (lines_of (drop start block)) at → StopsWithin contents failures b c (slice_range block start (start + at.start)) → (all : List Text) × Chosen (λ line. IsSought s line → ⊥) (lines_of block) all × StopsWithin contents failures a c (terminated all)
others_stop s to went at n stopped = sent_stops (IsSought s) to went at n (λ line. dec_any _ (λ e. dec_matches e line s.whole) s.expressions) stopped

-- where selected lines are written as they are, they are the rows
module _ (es : List Expression) {options : Options} {many : Bool} (name : Text) (bare : IsBare options many) where
  pub rows_chosen : (number : ℕ) (ls all : List Text) → Chosen (Selected es options) ls all → (rows : List Text) × RowsOfLines es options many name number ls rows (length all) × (written [] rows ≡ terminated all)
  rows_chosen _ [] _ none = ([], (refl, ap length none), sym (ap terminated none))
  rows_chosen number (l ∷ ls) all (front, rest, inl (selected, one), others, is) =
      let (rows, are, bytes) = rows_chosen (number + 1) ls rest others in
      let same = is ∙ ap (λ f. f ++ rest) one in
      let own = (head colon (name_shown many name) (shown_number options number) ++ l) ∷ [] in
      let is_own : RowsOfSelected es options many (form options) name number l own = rw bare.asked refl in
      let none : head colon (name_shown many name) (shown_number options number) ≡ [] = rw (bare.no_name, bare.no_number) refl in (
        own ++ rows,
        (own, rows, true, length rest, inl (selected, is_own), decided_yes selected, are, refl, omega (arith, ap length same)),
        ap (λ h. ((h ++ l) ++ newline ∷ []) ++ written [] rows) none ∙ append_assoc l (newline ∷ []) (written [] rows) ∙ ap (λ t. l ++ newline ∷ t) bytes ∙ sym (ap terminated same),
      )
  rows_chosen number (l ∷ ls) all (front, rest, inr (unselected, none), others, is) =
      let (rows, are, bytes) = rows_chosen (number + 1) ls rest others in
      let same = is ∙ ap (λ f. f ++ rest) none in
      (rows, ([], rows, false, length rest, inr (unselected, refl), decided_no unselected, are, refl, ap length same), bytes ∙ sym (ap terminated same))

-- each matcher took a step for each byte, and then for more of them
pub steps_for_more : (n start more : ℕ) {old mid new : Steps} → AddsAtMost (n * start) old mid → AddsAtMost (n * more) mid new → AddsAtMost (n * (start + more)) old new
steps_for_more n start more a b =
    let joined : n * start + n * more ≡ n * (start + more) = omega arith in
    rw joined at (cost_after _ _ a b)

pub steps_within : (n few most : ℕ) (old new : Steps) → few ≤ most → AddsAtMost (n * few) old new → AddsAtMost (n * most) old new
steps_within n few most old new h a =
    let split : n * few + n * (most - few) ≡ n * (few + (most - few)) = omega arith in
    let whole : few + (most - few) ≡ most = omega (arith, h) in
    cost_within _ _ (omega (arith, split, ap (λ k. n * k) whole)) a

-- a block that is ahead is the next lines
pub block_next : {R : Type 0} {now : Numbered R} (block rest : Text) → IsBlock block → now.lines.ahead ≡ block ++ rest → now.number + length block ≤ most_lines → (now.lines.stage ≡ Ended → now.lines.ahead ≡ []) → IsNextOf now (lines_of block)
block_next block rest whole ahead room over = record {
  rest = rest;
  ahead = ahead ∙ ap (λ b. b ++ rest) (block_lines block whole);
  few = omega (arith, room, ap length (block_lines block whole), lines_within (lines_of block));
  open_still = over;
}

-- what is written for them
module _ {M : Type 0} {contents : M → Option Text} {failures : M → ℕ} {es : List Expression} {options : Options} {many : Bool} {name : Text} (bare : IsBare options many)
    {R : Type 0} {now : Numbered R} {old new : M} {began ended : Steps} {block : Text} (is_block : IsBlock block) (next : IsNextOf now (lines_of block)) (steps : AddsAtMost (length es * length block) began ended)
    (matched : List Text) (chosen : Chosen (Selected es options) (lines_of block) matched) where
  pub takes_matched : {count found : ℕ} → GoesOut contents failures old new (terminated matched) → found ≡ length matched → count ≡ length (lines_of block) → TakesHeld es options many name now (writer contents failures old) (writer contents failures new) began ended (record { bytes = length block; count = count; found = found; goes_on = false })
  takes_matched went found counted =
      let (rows, are, is) = rows_chosen es name bare (now.number + 1) (lines_of block) matched chosen in
      record {
        all = lines_of block;
        free = free_lines block is_block;
        next = next;
        width = ap length (block_lines block is_block);
        counted = counted;
        took = record { rows = rows; are_rows = rw found are; wrote = TakesAll-written rows (rw (← is) at went) };
        spent = block_spent es options _ is_block steps;
        some = λ goes. absurd (false≢true goes);
      }

  pub stops_matched : StopsWithin contents failures old new (terminated matched) → StopsHeld es options many name now (writer contents failures old) (writer contents failures new) began ended Write
  stops_matched stopped =
      let (rows, are, is) = rows_chosen es name bare (now.number + 1) (lines_of block) matched chosen in
      record {
        all = lines_of block;
        free = free_lines block is_block;
        next = next;
        stops = record { rows = rows; found = length matched; are_rows = are; wrote = TakesFront-written rows (rw (← is) at stopped); counted = stopped.counted };
        spent = block_spent es options _ is_block steps;
      }
