-- Whole lines that are passed in one sweep.
use Rattle.{grep_io.proofs.Prelude.{◌≡◌, ℕ, zero, suc, ◌+◌, ◌-◌, ◌≤◌, List, [], ◌∷◌, ◌++◌, All, Option, length, take, drop, get_or, refl, sym, ap, ◌∙◌, arith, length-append, Consumes-trans, Keeps-refl, prepend_known-read, ⊤, Consumes, Text, newline, terminated, lines_of, HasNoNewline, IsBlock, PassesAll, is_byte, places, Stage, Open, Ended, Failed, most_lines, AreHanded, HandsLines, LineReader, to_come, IsStageOf, Numbered, AreAhead, HasHanded, PassesNext, take-append_seam, cond-true, cond-false, get_or-drop, drop-drop, append-nil, nil_from_length, All-append}, re_trees.proofs.lemmas.LinesLaws.{lines_of-terminated, first_differs, rest_has_none, all_head, all_tail, terminated-append}, memchr.specs.Find.places_from}

-- ---- newlines are counted

-- what follows the first of what is left
after_first : (hay xs : Text) (i b : ℕ) → drop i hay ≡ b ∷ xs → drop (i + 1) hay ≡ xs
after_first hay xs i b e = cc (drop-drop 1 i hay, ap (drop 1) e)

first_byte : (hay xs : Text) (i b : ℕ) → drop i hay ≡ b ∷ xs → get_or hay i 0 ≡ b
first_byte hay xs i b e = ap (λ n. get_or hay n 0) (omega arith) ∙ sym (get_or-drop i hay 0 0) ∙ ap (λ l. get_or l 0 0) e

-- what follows a line and its newline
drop_line : (t rest : Text) → drop (length t + 1) (t ++ newline ∷ rest) ≡ rest
drop_line [] rest = refl
drop_line (b ∷ t) rest =
    let longer : suc (length t) + 1 ≡ suc (length t + 1) = omega arith in
    rw longer (drop_line t rest)

module _ (hay : Text) where
  abbrev newlines : ℕ → ℕ → List ℕ
  newlines = places_from (is_byte newline) hay

  -- a line and its newline hold one
  in_line : (t rest : Text) (i n m p : ℕ) → HasNoNewline t → drop i hay ≡ t ++ newline ∷ rest → m ≡ length t + 1 + n → p ≡ i + length t + 1 → length (newlines i m) ≡ suc (length (newlines p n))
  unfolding places_from
  in_line [] rest i n zero p free e many far = absurd (omega arith)
  in_line [] rest i n (suc k) p free e many far =
      let same : k ≡ n = omega arith in
      let next : i + 1 ≡ p = omega arith in
      ap length (cond-true _ _ _ (ap (is_byte newline) (first_byte hay rest i newline e))) ∙ ap (λ x. suc (length (newlines (i + 1) x))) same ∙ ap (λ x. suc (length (newlines x n))) next
  in_line (b ∷ t) rest i n zero p free e many far = absurd (omega arith)
  in_line (b ∷ t) rest i n (suc k) p free e many far = ap length (cond-false _ _ _ (ap (is_byte newline) (first_byte hay (t ++ newline ∷ rest) i b e) ∙ first_differs b t free)) ∙ in_line t rest (i + 1) n k p (rest_has_none b t free) (after_first hay _ i b e) (omega arith) (omega arith)

  -- there is one for each line
  count_from : (ts : List Text) (i m : ℕ) → All HasNoNewline ts → drop i hay ≡ terminated ts → m ≡ length (terminated ts) → length (newlines i m) ≡ length ts
  unfolding places_from
  count_from [] i zero free e many = refl
  count_from [] i (suc m) free e many = absurd (omega arith)
  count_from (t ∷ ts) i m free e many =
      let rest : drop (i + length t + 1) hay ≡ terminated ts = ap (λ n. drop n hay) (omega arith) ∙ sym (drop-drop (length t + 1) i hay) ∙ ap (drop (length t + 1)) e ∙ drop_line t (terminated ts) in
      in_line t (terminated ts) i (length (terminated ts)) m (i + length t + 1) (all_head t ts free) e (omega (arith, length-append t (newline ∷ terminated ts))) refl ∙ ap suc (count_from ts (i + length t + 1) (length (terminated ts)) (all_tail t ts free) rest refl)

-- whole lines hold one newline each
pub count_lines : (bytes : Text) (ts : List Text) → All HasNoNewline ts → bytes ≡ terminated ts → length (places (is_byte newline) bytes) ≡ length ts
count_lines bytes ts free e = count_from bytes ts 0 (length bytes - 0) free e (omega (arith, ap length e))

-- a block holds one newline for each line
pub count_block : (block : Text) → IsBlock block → length (places (is_byte newline) block) ≡ length (lines_of block)
count_block block h = cc (count_lines block h.0 h.1 h.2, sym (ap lines_of h.2 ∙ lines_of-terminated h.0 h.1))

-- ---- what was handed out and what is passed

no_lines : (ts : List Text) (rest : Text) → [] ≡ terminated ts ++ rest → ts ≡ []
no_lines [] rest e = refl
no_lines ([] ∷ ts) rest e = let no : ⊥ = cc in absurd no
no_lines ((b ∷ t) ∷ ts) rest e = let no : ⊥ = cc in absurd no

-- a text without newline has none in what follows its first bytes
rest_free : (xs ys : Text) → HasNoNewline (xs ++ ys) → HasNoNewline ys
rest_free [] ys h = h
rest_free (x ∷ xs) ys h = rest_free xs ys (rest_has_none x (xs ++ ys) h)

module _ {R : Type 0} (remaining : R → Option Text) (failures : R → ℕ) where
  -- what is to come begins with the lines
  lines_taken : (old new : LineReader R) (bytes : Text) → old.ahead ≡ bytes ++ new.ahead → new.reader ≡ old.reader → Consumes (to_come remaining failures old) (to_come remaining failures new) bytes
  lines_taken old new bytes cut same = (prepend_known-read (to_come remaining failures old) (remaining new.reader) old.ahead new.ahead bytes ⊥ (rw same (Keeps-refl (to_come remaining failures old))) cut (λ no. absurd no)).0

  -- how far a reader of lines has read stays true of fewer bytes ahead
  pub stage_stays : (may_be_read : R → Type 0) (stage : Stage) {old : Text} (new : Text) (reader : R) (count : ℕ) → IsStageOf remaining failures may_be_read stage old reader → old ≡ take count old ++ new → IsStageOf remaining failures may_be_read stage new reader
  stage_stays may_be_read Open new reader count h cut = h
  stage_stays may_be_read Ended {old} new reader count h cut =
      let long : length old ≡ length (take count old) + length new = cc (length-append (take count old) new) in
      (nil_from_length new (omega (arith, ap length h.0)), h.1)
  stage_stays may_be_read Failed {old} new reader count h cut = rest_free (take count old) new (rw cut at h)

  -- at the end nothing is ahead
  pub none_at_end : (may_be_read : R → Type 0) (stage : Stage) (ahead : Text) (reader : R) → IsStageOf remaining failures may_be_read stage ahead reader → stage ≡ Ended → ahead ≡ []
  none_at_end may_be_read Open ahead reader h over = absurd cc
  none_at_end may_be_read Ended ahead reader h over = h.0
  none_at_end may_be_read Failed ahead reader h over = absurd cc

  handed_too : (stage : Stage) (given : Text) (handed lines : List Text) → AreHanded stage given handed → (stage ≡ Ended → lines ≡ []) → All HasNoNewline lines → AreHanded stage (given ++ terminated lines) (handed ++ lines)
  handed_too Open given handed lines h none free = (ap (λ l. l ++ terminated lines) h.0 ∙ sym (terminated-append handed lines), All-append HasNoNewline handed lines h.1 free)
  handed_too Ended given handed lines h none free = rw (none refl) (cc (append-nil given, append-nil handed))
  handed_too Failed given handed lines h none free = absurd h

  -- the next whole lines are passed
  pub HandsLines-pass : (reader : R) (old new : LineReader R) (handed lines : List Text) → HandsLines remaining failures reader old handed → (old.stage ≡ Ended → old.ahead ≡ []) → All HasNoNewline lines → old.ahead ≡ terminated lines ++ new.ahead → new.reader ≡ old.reader → new.stage ≡ old.stage → HandsLines remaining failures reader new (handed ++ lines)
  HandsLines-pass reader old new handed lines s none_ahead free cut same still =
      let none : old.stage ≡ Ended → lines ≡ [] = λ ended. no_lines lines new.ahead (sym (none_ahead ended) ∙ cut) in
      record {
        given = s.given ++ terminated lines;
        gave = Consumes-trans (remaining reader) (to_come remaining failures old) (to_come remaining failures new) s.given (terminated lines) s.gave (lines_taken old new (terminated lines) cut same);
        are_handed = rw still (handed_too old.stage s.given handed lines s.are_handed none free);
        all_given = λ ended.
            let was = sym still ∙ ended in
            let left : new.ahead ≡ old.ahead = sym (cut ∙ ap (λ ts. terminated ts ++ new.ahead) (none was)) in
            rw same (rw left (s.all_given was));
        none_failed = cc s.none_failed;
      }

  -- the next whole lines are passed of a reader of numbered lines, no more than can be numbered
  pub HasHanded-pass : (reader : R) (old new : Numbered R) (handed lines : List Text) → HasHanded remaining failures reader old handed → (old.lines.stage ≡ Ended → old.lines.ahead ≡ []) → All HasNoNewline lines → old.lines.ahead ≡ terminated lines ++ new.lines.ahead → new.lines.reader ≡ old.lines.reader → new.lines.stage ≡ old.lines.stage → new.number ≡ old.number + length lines → new.number ≤ most_lines → HasHanded remaining failures reader new (handed ++ lines)
  HasHanded-pass reader old new handed lines s none_ahead free cut same still more few = record {
    hands = HandsLines-pass _ _ _ _ lines s.hands none_ahead free cut same still;
    counted = cc (length-append handed lines, s.counted);
    few = omega (arith, length-append handed lines);
  }

  -- the lines of a block that is ahead
  pub all_ahead : {now : Numbered R} {block : Text} {bytes count : ℕ} → bytes ≡ length block → AreAhead now block count → PassesAll (λ _. ⊤) now.lines.ahead bytes
  all_ahead width h = (h.whole.0, h.rest, h.whole.1, λ i d below. tt, h.ahead ∙ ap (λ l. l ++ h.rest) h.whole.2, width ∙ ap length h.whole.2)

  -- they are passed
  pub passes_block : (old new : Numbered R) (block : Text) (bytes count : ℕ) → bytes ≡ length block → AreAhead old block count → (old.lines.stage ≡ Ended → old.lines.ahead ≡ []) → old.lines.ahead ≡ take bytes old.lines.ahead ++ new.lines.ahead → new.lines.reader ≡ old.lines.reader → new.lines.stage ≡ old.lines.stage → new.number ≡ old.number + count → PassesNext remaining failures old new (lines_of (take bytes old.lines.ahead))
  passes_block old new block bytes count width h none_ahead cut same still more = λ reader handed s.
      let is : lines_of block ≡ h.whole.0 = cc (h.whole.2, lines_of-terminated h.whole.0 h.whole.1) in
      let taken : take bytes old.lines.ahead ≡ block = cc (h.ahead, take-append_seam block h.rest) in
      let long : old.number + count ≡ old.number + length h.whole.0 = rw (h.counted ∙ ap length is) in
      rw (taken, is) (HasHanded-pass reader old new handed h.whole.0 s none_ahead h.whole.1 (cc (taken ∙ h.whole.2)) same still (more ∙ long) (omega arith))
