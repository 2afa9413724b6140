-- Where the steps of a script bring few bytes, the numbers of all changes can be held.
use Rattle.{grep_cmd.proofs.{Prelude.{◌≡◌, ℕ, zero, suc, ◌+◌, ◌-◌, ◌<◌, ◌≤◌, Bool, true, false, List, [], ◌∷◌, ◌++◌, length, map, take, drop, get_or, All, MatchBool, Result, Ok, Err, refl, sym, ap, subst, inl, inr, arith, length-append, length-set, length-drop, length-take, slice_set, slice_range, remove, splice, Text, Expression, ArePartsFrom, AreParts, Options, File, Inputs, file_at, EditFault, Edit, AddFile, AddMissing, DropFile, Splice, DropPattern, ChangePattern, SetFlag, SetSyntax, SetContext, Applies, EditGives, with_files, spliced, whole_file, missing_file, ListedParts, Marked, Stretch, Fits, AllThree, Hit, HitOf, HitsFrom, Watched, whole_mark, new_mark, mark_at, lost, changes_hits, if◌then◌else◌, IsFit, AreFit, MarksAfter, MarksGiven, Change, AreChanges, ChangesFile, all_known, does, IsHeld, IsHeldPart, IsHeldHit, IsHeldChange, bytes_of, cases_lt, take-take, All-nil, All-cons, All-head, All-tail, All-append, All-set, All-weaker, All-take, All-drop, All-map, All-get_or, sum_by-append, sum_by-cons, sum_by-take-drop, sum_by-take-le, get_or-le-sum_by}, lemmas.{BroughtLaws.brought, ReadingLaws.AreHeldChanges}}, grep_session.specs.Edits.AddPatterns, grep_live.proofs.lemmas.CarryLemmas.{added_file, added_missing, added_patterns, changed_pattern, context_set, dropped_pattern, file_dropped, option_set, refused_same, splice_accepted, syntax_set}}

get_or_past : {A : Type 0} (xs : List A) (k : ℕ) (d : A) → length xs ≤ k → get_or xs k d ≡ d
get_or_past [] k d past = refl
get_or_past (x ∷ xs) zero d past = absurd (omega arith)
get_or_past (x ∷ xs) (suc k) d past = get_or_past xs k d (omega arith)

-- ---- what is within a number

abbrev FileWithin : ℕ → File → Type 0
FileWithin n file = bytes_of file.lines ≤ n

abbrev MarkWithin : ℕ → Marked → Type 0
MarkWithin n mark = mark.known ≤ n

pub record IsWithin (n : ℕ) (state : Watched) : Type 0 where
  pub few : length state.inputs.files ≤ n
  pub files : All (FileWithin n) state.inputs.files
  pub marks : All (MarkWithin n) state.marks

module _ (n m : ℕ) (more : n ≤ m) where
  files_wider : (files : List File) → All (FileWithin n) files → All (FileWithin m) files
  files_wider files within = All-weaker (FileWithin n) (FileWithin m) (λ file few. omega (arith, few)) files within

  marks_wider : (marks : List Marked) → All (MarkWithin n) marks → All (MarkWithin m) marks
  marks_wider marks within = All-weaker (MarkWithin n) (MarkWithin m) (λ mark few. omega (arith, few)) marks within

  pub within_wider : (state : Watched) → IsWithin n state → IsWithin m state
  within_wider state w = record { few = omega (arith, w.few); files = files_wider _ w.files; marks = marks_wider _ w.marks }

-- ---- the files after an edit

abbrev FilesWithin : ℕ → List File → Type 0
FilesWithin n files = (length files ≤ n) × All (FileWithin n) files

-- a splice has at most the bytes of both
splice_within : (lines come : List Text) (start end : ℕ) → start ≤ end → bytes_of (splice lines start end come) ≤ bytes_of lines + bytes_of come
splice_within lines come start end order =
    let count = λ (line : Text). length line + 1 in
    let front =
    rw (take-take start end lines order) at (sum_by-take-le count (take end lines) start) in
    omega (arith, sum_by-take-drop count lines end, sum_by-append count (take start lines) (come ++ drop end lines), sum_by-append count come (drop end lines))

module _ (n : ℕ) (old new : Inputs) (within : FilesWithin n old.files) where
  files_added : (file : File) (b : ℕ) → bytes_of file.lines ≤ b → new ≡ with_files (old.files ++ file ∷ []) old → FilesWithin (n + (1 + b)) new.files
  files_added file b few is =
      let wide = files_wider n (n + (1 + b)) (omega arith) old.files within.1 in
      let one = All-cons (FileWithin (n + (1 + b))) file [] (omega (arith, few)) (All-nil (FileWithin (n + (1 + b)))) in
      rw is
      (omega (arith, within.0, length-append old.files (file ∷ [])), All-append (FileWithin (n + (1 + b))) old.files (file ∷ []) wide one)

  files_same : new.files ≡ old.files → FilesWithin (n + 1) new.files
  files_same is = rw is (omega (arith, within.0), files_wider n (n + 1) (omega arith) old.files within.1)

  files_dropped : (k : ℕ) → new ≡ with_files (remove old.files k) old → FilesWithin (n + 1) new.files
  files_dropped k is =
      let wide = files_wider n (n + 1) (omega arith) old.files within.1 in
      rw is (
        omega (arith, within.0, length-append (take k old.files) (drop (suc k) old.files), length-take k old.files, length-drop (suc k) old.files),
        All-append (FileWithin (n + 1)) (take k old.files) (drop (suc k) old.files) (All-take (FileWithin (n + 1)) k old.files wide) (All-drop (FileWithin (n + 1)) (suc k) old.files wide),
      )

  file_within : (k : ℕ) → bytes_of (file_at old.files k).lines ≤ n
  file_within k = elim (cases_lt k (length old.files)) [
    | inl inside ↦ All-get_or (FileWithin n) old.files k (file_at [] k) inside within.1
    | inr outside ↦ rw (get_or_past _ k _ outside) (omega arith)
  ]

  files_spliced : (k start count : ℕ) (come : List Text) → new ≡ with_files (spliced old.files k start count come) old → FilesWithin (n + (1 + bytes_of come)) new.files
  files_spliced k start count come is =
      let m = n + (1 + bytes_of come) in
      let wide = files_wider n m (omega arith) old.files within.1 in
      let file = record (file_at old.files k) { lines = splice (file_at old.files k).lines start (start + count) come } in
      let few : bytes_of file.lines ≤ m = omega (arith, splice_within (file_at old.files k).lines come start (start + count) (omega arith), file_within k) in
      rw is (omega (arith, within.0, length-set old.files k file), All-set (FileWithin m) old.files k file few wide)

  files_after : (edit : Edit) → Applies edit old (Ok new) → FilesWithin (n + brought (does edit)) new.files
  files_after (AddFile name lines) a = files_added (whole_file name lines) (bytes_of lines) (omega arith) (added_file name lines old new a)
  files_after (AddMissing name) a = files_added (missing_file name) 0 (omega arith) (added_missing name old new a)
  files_after (DropFile k) a = files_dropped k (file_dropped k old new a)
  files_after (Splice k start count lines) a = files_spliced k start count lines (splice_accepted k start count lines old new a).is
  files_after (AddPatterns list) a = files_same (ap (λ (i : Inputs). i.files) (added_patterns list old new a))
  files_after (DropPattern p) a = files_same (ap (λ (i : Inputs). i.files) (dropped_pattern p old new a))
  files_after (ChangePattern p text) a = files_same (ap (λ (i : Inputs). i.files) (changed_pattern p text old new a))
  files_after (SetFlag flag on) a = files_same (ap (λ (i : Inputs). i.files) (option_set flag on old new a))
  files_after (SetSyntax syntax) a = files_same (ap (λ (i : Inputs). i.files) (syntax_set syntax old new a))
  files_after (SetContext context) a = files_same (ap (λ (i : Inputs). i.files) (context_set context old new a))

-- ---- the marks after an edit

module _ (n : ℕ) where
  lost_within : (marks : List Marked) → All (MarkWithin n) marks → All (MarkWithin n) (map lost marks)
  lost_within marks within = All-map (MarkWithin n) lost marks (All-weaker (MarkWithin n) (λ (mark : Marked). MarkWithin n (lost mark)) (λ mark few. few) marks within)

  lost_or_within : (all : Bool) (marks : List Marked) → All (MarkWithin n) marks → All (MarkWithin n) (if all then map lost marks else marks)
  lost_or_within true marks within = lost_within marks within
  lost_or_within false marks within = within

  mark_within : (marks : List Marked) (k : ℕ) → All (MarkWithin n) marks → MarkWithin n (mark_at marks k)
  mark_within marks k within = elim (cases_lt k (length marks)) [
    | inl inside ↦ All-get_or (MarkWithin n) marks k (whole_mark 0) inside within
    | inr outside ↦ subst (MarkWithin n) (sym (get_or_past marks k (whole_mark 0) outside)) (omega arith)
  ]

  marks_as : (a b : List Marked) → a ≡ b → All (MarkWithin n) b → All (MarkWithin n) a
  marks_as a b e within = subst (All (MarkWithin n)) (sym e) within

  added_within : (marks : List Marked) (lines : ℕ) → All (MarkWithin n) marks → All (MarkWithin n) (marks ++ new_mark lines ∷ [])
  added_within marks lines within = All-append (MarkWithin n) marks (new_mark lines ∷ []) within (All-cons (MarkWithin n) (new_mark lines) [] (omega arith) (All-nil (MarkWithin n)))

  marks_after : (edit : Edit) (old : Watched) (marks : List Marked) → All (MarkWithin n) old.marks → MarksAfter edit old marks → All (MarkWithin n) marks
  marks_after (AddFile name lines) old marks within m = marks_as marks (old.marks ++ new_mark (length lines) ∷ []) m (added_within old.marks (length lines) within)
  marks_after (AddMissing name) old marks within m = marks_as marks (old.marks ++ new_mark 0 ∷ []) m (added_within old.marks 0 within)
  marks_after (DropFile k) old marks within m =
      marks_as marks (remove old.marks k) m (All-append (MarkWithin n) (take k old.marks) (drop (suc k) old.marks) (All-take (MarkWithin n) k old.marks within) (All-drop (MarkWithin n) (suc k) old.marks within))
  marks_after (Splice k start count lines) old marks within (mark, s, is) =
      marks_as marks (slice_set old.marks k mark) is (All-set (MarkWithin n) old.marks k mark (omega (arith, s.known, mark_within old.marks k within)) within)
  marks_after (AddPatterns list) old marks within m = marks_as marks (map lost old.marks) m (lost_within old.marks within)
  marks_after (DropPattern p) old marks within m = marks_as marks (map lost old.marks) m (lost_within old.marks within)
  marks_after (ChangePattern p text) old marks within (inl (same, m)) = marks_as marks old.marks m within
  marks_after (ChangePattern p text) old marks within (inr (other, m)) = marks_as marks (map lost old.marks) m (lost_within old.marks within)
  marks_after (SetFlag flag on) old marks within (inl (same, m)) = marks_as marks old.marks m within
  marks_after (SetFlag flag on) old marks within (inr (other, m)) = marks_as marks (if changes_hits flag then map lost old.marks else old.marks) m (lost_or_within (changes_hits flag) old.marks within)
  marks_after (SetSyntax syntax) old marks within (inl (same, m)) = marks_as marks old.marks m within
  marks_after (SetSyntax syntax) old marks within (inr (other, m)) = marks_as marks (map lost old.marks) m (lost_within old.marks within)
  marks_after (SetContext context) old marks within m = marks_as marks old.marks m within

-- ---- the state after an edit

pub within_after : (n : ℕ) (edit : Edit) (old new : Watched) (answer : Result (Unit {0}) EditFault) → IsWithin n old → EditGives edit old.inputs new.inputs answer → MarksGiven edit old new.marks answer → IsWithin (n + brought (does edit)) new
within_after n edit old new (Ok done) w g m =
    let files = files_after n old.inputs new.inputs (w.few, w.files) edit g in
    let marks = marks_after n edit old new.marks w.marks m in
    record { few = files.0; files = files.1; marks = marks_wider n (n + brought (does edit)) (omega arith) new.marks marks }
within_after n edit old new (Err fault) w g m =
    let same : new ≡ record old { states = new.states } = λ i. record { inputs = refused_same (Unit {0}) edit old.inputs new.inputs fault g i; marks = m i; states = new.states } in
    within_wider n (n + brought (does edit)) (omega arith) new (subst (IsWithin n) (sym same) (record { few = w.few; files = w.files; marks = w.marks }))

-- ---- the numbers of a change

each_line : (lines : List Text) → All (λ (line : Text). length line + 1 ≤ bytes_of lines) lines
each_line lines = λ k d inside. get_or-le-sum_by (λ (line : Text). length line + 1) lines k d inside

lines_few : (lines : List Text) → length lines ≤ bytes_of lines
lines_few [] = omega arith
lines_few (line ∷ lines) = omega (arith, lines_few lines, sum_by-cons (λ (l : Text). length l + 1) line lines)

parts_held : (es : List Expression) (line : Text) (whole : Bool) (from : ℕ) (parts : List (ℕ × ℕ)) → IsHeld (length line) → ArePartsFrom es line whole from parts → All IsHeldPart parts
parts_held es line whole from [] held are = All-nil IsHeldPart
parts_held es line whole from ((i, j) ∷ parts) held are =
    let found = are.0.found in
    let here : IsHeldPart (i, j) = (omega (arith, held, found.not_empty, found.on_line), omega (arith, held, found.on_line)) in
    All-cons IsHeldPart (i, j) parts here (parts_held es line whole j parts held are.1)

module _ (es : List Expression) (options : Options) (n : ℕ) (held : IsHeld n) where
  listed_held : (line : Text) (parts : List (ℕ × ℕ)) → length line + 1 ≤ n → ListedParts es options line parts → All IsHeldPart parts
  listed_held line parts few listed = by_flag options.only_matching listed
    where
      by_flag : (asked : Bool) → MatchBool asked (AreParts es line options.line_regexp parts) (parts ≡ []) → All IsHeldPart parts
      by_flag true are = parts_held es line options.line_regexp 0 parts (omega (arith, held, few)) are
      by_flag false none = subst (All IsHeldPart) (sym none) (All-nil IsHeldPart)

  one_held : (place : ℕ) (line : Text) (hits : List Hit) → place < n → length line + 1 ≤ n → HitOf es options (place, line) hits → All IsHeldHit hits × (length hits ≤ 1)
  one_held place line hits inside few (inl (selected, (parts, listed, is))) =
      let hit : Hit = record { place = place; text = line; parts = parts } in
      let here : IsHeldHit hit = record { place = omega (arith, held, inside); parts = listed_held line parts few listed } in
      subst (λ (l : List Hit). All IsHeldHit l × (length l ≤ 1)) (sym is) (All-cons IsHeldHit hit [] here (All-nil IsHeldHit), omega arith)
  one_held place line hits inside few (inr (passed, is)) = subst (λ (l : List Hit). All IsHeldHit l × (length l ≤ 1)) (sym is) (All-nil IsHeldHit, omega arith)

  abbrev LineWithin : Text → Type 0
  LineWithin line = length line + 1 ≤ n

  hits_held : (first : ℕ) (lines : List Text) (hits : List Hit) → first + length lines ≤ n → All LineWithin lines → HitsFrom es options first lines hits → All IsHeldHit hits × (length hits ≤ length lines)
  hits_held first [] hits inside few h = subst (λ (l : List Hit). All IsHeldHit l × (length l ≤ 0)) (sym h) (All-nil IsHeldHit, omega arith)
  hits_held first (line ∷ lines) hits inside few (front, rest, one, more, joined) =
      let here = one_held first line front (omega (arith, inside)) (All-head LineWithin line lines few) one in
      let later = hits_held (first + 1) lines rest (omega (arith, inside)) (All-tail LineWithin line lines few) more in
      subst (λ (l : List Hit). All IsHeldHit l × (length l ≤ suc (length lines))) (sym joined)
      (All-append IsHeldHit front rest here.0 later.0, omega (arith, here.1, later.1, length-append front rest))

  stretches_held : (first old new : ℕ) (lines : List Text) (stretches : List Stretch) (changes : List Change) → Fits old new stretches → old ≤ n → length lines ≡ new → first + new ≤ n → All LineWithin lines → AreChanges es options first lines stretches changes → AreHeldChanges changes
  stretches_held first old new lines [] changes fits few long inside wide c = subst AreHeldChanges (sym c) (All-nil IsHeldChange)
  stretches_held first old new lines (stretch ∷ more) [] fits few long inside wide c = absurd c
  stretches_held first old new lines (stretch ∷ more) (change ∷ changes) (older, newer, was, is, rest) few long inside wide (is_front, is_removed, is_added, are_hits, others) =
      let past = stretch.kept + stretch.added in
      let front = first + stretch.kept in
      let slice = slice_range lines stretch.kept past in
      let short : length slice ≤ stretch.added = omega (arith, length-take (past - stretch.kept) (drop stretch.kept lines)) in
      let some : All LineWithin slice = All-take LineWithin (past - stretch.kept) (drop stretch.kept lines) (All-drop LineWithin stretch.kept lines wide) in
      let hits = hits_held front slice change.come (omega (arith, short, is, inside)) some are_hits in
      let here : IsHeldChange change = record {
        front = omega (arith, held, is_front, is, inside);
        removed = omega (arith, held, is_removed, was, few);
        added = omega (arith, held, is_added, is, inside);
        count = omega (arith, held, hits.1, short, is, inside);
        hits = hits.0;
      } in
      let left : length (drop past lines) ≡ newer = omega (arith, length-drop past lines, long, is) in
      All-cons IsHeldChange change changes here (stretches_held (first + past) older newer (drop past lines) more changes rest (omega (arith, was, few)) left (omega (arith, is, inside)) (All-drop LineWithin past lines wide) others)

  file_held : (file : File) (mark : Marked) (changes : List Change) → FileWithin n file → MarkWithin n mark → IsFit file mark → ChangesFile es options file mark changes → AreHeldChanges changes
  file_held file mark changes few marked fit c =
      let lines = file.lines in
      let wide : All LineWithin lines = All-weaker (λ (line : Text). length line + 1 ≤ bytes_of lines) LineWithin (λ line b. omega (arith, b, few)) lines (each_line lines) in
      stretches_held 0 mark.known mark.lines lines mark.stretches changes fit.1 marked (omega (arith, fit.0)) (omega (arith, fit.0, lines_few lines, few)) wide c

  pub changes_held : (files : List File) (marks : List Marked) (changes : List (List Change)) → All (FileWithin n) files → All (MarkWithin n) marks → AreFit files marks → AllThree (ChangesFile es options) files marks changes → All AreHeldChanges changes
  changes_held [] [] [] few marked fit c = All-nil AreHeldChanges
  changes_held [] [] (change ∷ changes) few marked fit c = absurd c
  changes_held [] (mark ∷ marks) changes few marked fit c = absurd fit
  changes_held (file ∷ files) [] changes few marked fit c = absurd fit
  changes_held (file ∷ files) (mark ∷ marks) [] few marked fit c = absurd c
  changes_held (file ∷ files) (mark ∷ marks) (change ∷ changes) few marked fit c =
      let here = file_held file mark change (All-head (FileWithin n) file files few) (All-head (MarkWithin n) mark marks marked) fit.0 c.0 in
      All-cons AreHeldChanges change changes here (changes_held files marks changes (All-tail (FileWithin n) file files few) (All-tail (MarkWithin n) mark marks marked) fit.1 c.1)

-- the state after the changes were reported
pub within_known : (n : ℕ) (old : Watched) → IsWithin n old → IsWithin n (all_known old)
within_known n old w =
    let known = All-weaker (FileWithin n) (λ (file : File). MarkWithin n (whole_mark (length file.lines))) (λ file few. omega (arith, lines_few file.lines, few)) old.inputs.files w.files in
    record { few = w.few; files = w.files; marks = All-map (MarkWithin n) (λ (file : File). whole_mark (length file.lines)) old.inputs.files known }
