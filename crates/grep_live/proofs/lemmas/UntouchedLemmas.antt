-- A line that edits leave is not reported.
use Rattle.grep_live.proofs.{Prelude.{◌≡◌, ℕ, zero, suc, ◌+◌, ◌<◌, ◌≤◌, List, [], ◌∷◌, ◌++◌, length, take, drop, get_or, Result, Ok, Err, ◌⊎◌, refl, sym, ap, subst, ◌∙◌, inl, inr, arith, set, length-append, length-drop, length-map, length-set, length-take, get_or-set_same, get_or-set_other, get_or_append_left, slice_set, MatchResult, IfHolds, remove, Text, Expression, Options, File, Inputs, file_at, EditFault, Edit, AddFile, AddMissing, DropFile, Splice, AddPatterns, ChangePattern, DropPattern, SetFlag, SetSyntax, SetContext, Applies, EditGives, whole_file, missing_file, spliced, Attempt, accepted, with_accepted, Marked, Stretch, Keeps, Moves, Splices, most_stretches, Watched, whole_mark, new_mark, mark_at, MarksAfter, MarksGiven, Change, AreChanges, ChangesFile, all_known, changes_at, LeavesAll, Stays, EachStays, LeaveLine, splices, UntouchedLines}, lemmas.{ListLemmas.three-at, OnlyLemmas.{all_left, kept_before, known_at}, CarryLemmas.{added_file, added_missing, file_dropped, refused_same, splice_accepted}}}

-- ---- the changes of a file leave the lines that its mark keeps

module _ (es : List Expression) (options : Options) where
  -- a line before all stretches
  leave_before : (stretches : List Stretch) (changes : List Change) (first place : ℕ) (lines : List Text) → place < first → AreChanges es options first lines stretches changes → LeaveLine changes place place
  leave_before [] changes first place lines l c = rw c refl
  leave_before (stretch ∷ more) [] first place lines l c = absurd c
  leave_before (stretch ∷ more) (change ∷ changes) first place lines l (is_front, is_removed, is_added, are_hits, rest) =
      let past = stretch.kept + stretch.added in
      (place, inl (omega arith, refl), leave_before more changes (first + past) place (drop past lines) (omega arith) rest)

  -- a line that is kept
  leave_kept : (stretches : List Stretch) (changes : List Change) (first old new p q : ℕ) (lines : List Text) → p ≡ first + old → q ≡ first + new → Keeps stretches old new → AreChanges es options first lines stretches changes → LeaveLine changes p q
  leave_kept [] changes first old new p q lines e f keeps c =
      let same : q ≡ p = omega arith in
      rw c same
  leave_kept (stretch ∷ more) [] first old new p q lines e f keeps c = absurd c
  leave_kept (stretch ∷ more) (change ∷ changes) first old new p q lines e f (inl (l, same)) (is_front, is_removed, is_added, are_hits, rest) =
      let past = stretch.kept + stretch.added in
      let is : p ≡ q = omega arith in
      let others : LeaveLine changes p p = leave_before more changes (first + past) p (drop past lines) (omega arith) rest in
      (p, inl (omega (arith, e, l, is_front), refl), subst (LeaveLine changes p) is others)
  leave_kept (stretch ∷ more) (change ∷ changes) first old new p q lines e f (inr (past, later, was, is, keeps)) (is_front, is_removed, is_added, are_hits, rest) =
      let end = stretch.kept + stretch.added in
      let moved = change.front + change.added + past in
      (moved, inr (past, omega arith, refl), leave_kept more changes (first + end) past later moved q (drop end lines) (omega arith) (omega arith) keeps rest)

-- ---- edits that leave a line

-- a file is there with its mark, of at most so many stretches, by which line `first` of the known ones is this line now
abbrev IsKept : ℕ → ℕ → ℕ → ℕ → List File → List Marked → Type 0
IsKept first k line most files marks =
    (k < length files) × (k < length marks) × Keeps (mark_at marks k).stretches first line × (length (mark_at marks k).stretches ≤ most)

-- an element after one that is removed
kept_after : {A : Type 0} (xs : List A) (other j : ℕ) (d : A) → other ≤ j → get_or (remove xs other) j d ≡ get_or xs (suc j) d
kept_after [] zero j d l = refl
kept_after [] (suc other) j d l = refl
kept_after (x ∷ xs) zero j d l = refl
kept_after (x ∷ xs) (suc other) zero d l = absurd (omega arith)
kept_after (x ∷ xs) (suc other) (suc j) d l = kept_after xs _ j d (omega arith)

inside_after : {A : Type 0} (xs : List A) (other j : ℕ) → other ≤ j → suc j < length xs → j < length (remove xs other)
inside_after xs other j l h = omega (arith, length-append (take other xs) (drop (suc other) xs), length-take other xs, length-drop (suc other) xs)

module _ (first : ℕ) where
  -- the same line
  at_these : (k j line now most : ℕ) (files new : List File) (marks more : List Marked) → j ≡ k → now ≡ line → new ≡ files → more ≡ marks → IsKept first k line most files marks → IsKept first j now most new more
  at_these k j line now most files new marks more a b f m u =
      subst (λ (l : List File). IsKept first j now most l more) (sym f) (subst (IsKept first j now most files) (sym m) (subst (λ (z : ℕ × ℕ). IsKept first z.0 z.1 most files marks) (λ i. (sym a i, sym b i)) u))

  -- other lists with the same mark at this place
  same_mark : (k j line most : ℕ) (files new : List File) (marks more : List Marked) → j < length new → j < length more → mark_at more j ≡ mark_at marks k → IsKept first k line most files marks → IsKept first j line most new more
  same_mark k j line most files new marks more a b is u =
      (a, b, rw is u.2, rw is u.3)

  line_added : (k line most : ℕ) (files : List File) (marks : List Marked) (file : File) (mark : Marked) → IsKept first k line most files marks → IsKept first k line most (files ++ file ∷ []) (marks ++ mark ∷ [])
  line_added k line most files marks file mark u =
      same_mark k k _ _ _ _ _ _ (omega (arith, u.0, length-append files (file ∷ []))) (omega (arith, u.1, length-append marks (mark ∷ []))) (get_or_append_left marks (mark ∷ []) (whole_mark 0) k u.1) u

  line_dropped : (k j line most other : ℕ) (files : List File) (marks : List Marked) → ((k < other) × (j ≡ k)) ⊎ ((other < k) × (j + 1 ≡ k)) → IsKept first k line most files marks → IsKept first j line most (remove files other) (remove marks other)
  line_dropped k j line most other files marks (inl (l, e)) u =
      let file = kept_before files k other (file_at [] k) l u.0 in
      let mark = kept_before marks k other (whole_mark 0) l u.1 in
      rw e (same_mark k k line most files (remove files other) marks (remove marks other) file.0 mark.0 mark.1 u)
  line_dropped k j line most other files marks (inr (l, e)) u =
      let is : suc j ≡ k = omega arith in
      same_mark k j line most files (remove files other) marks (remove marks other) (inside_after files other j (omega arith) (omega (arith, u.0))) (inside_after marks other j (omega arith) (omega (arith, u.1)))
      (kept_after marks other j (whole_mark 0) (omega arith) ∙ ap (λ n. get_or marks n (whole_mark 0)) is) u

  -- lines of another file were replaced
  line_apart : (k line most other : ℕ) (files : List File) (marks : List Marked) (file : File) (mark : Marked) → (other ≡ k → ⊥) → IsKept first k line most files marks → IsKept first k line most (set files other file) (set marks other mark)
  line_apart k line most other files marks file mark apart u =
      same_mark k k _ _ _ _ _ _ (omega (arith, u.0, length-set files other file)) (omega (arith, u.1, length-set marks other mark)) (get_or-set_other marks other k mark (whole_mark 0) (λ e. apart (sym e))) u

  -- lines of this file were replaced
  line_here : (k line now most start count added : ℕ) (files : List File) (marks : List Marked) (file : File) (mark : Marked) → most < most_stretches → Moves start count added line now → Splices start count added (mark_at marks k) mark → IsKept first k line most files marks →
      IsKept first k now (most + 1) (set files k file) (set marks k mark)
  line_here k line now most start count added files marks file mark few moves s u =
      let is : mark ≡ mark_at (set marks k mark) k = sym (get_or-set_same marks k mark (whole_mark 0) u.1) in (
        omega (arith, u.0, length-set files k file),
        omega (arith, u.1, length-set marks k mark),
        rw is at (s.all (omega (arith, u.3)) first line now u.2 moves),
        subst (λ (m : Marked). length m.stretches ≤ most + 1) is (omega (arith, u.3, s.one_more)),
      )

  more_kept : (k line most more : ℕ) (files : List File) (marks : List Marked) → most ≤ more → IsKept first k line most files marks → IsKept first k line more files marks
  more_kept k line most more files marks l u = (u.0, u.1, u.2, omega (arith, u.3))

  line_spliced : (k line j now most other start count : ℕ) (come : List Text) (old new : Watched) → most < most_stretches → Stays k line (Splice other start count come) old.inputs j now → Applies (Splice other start count come) old.inputs (Ok new.inputs) →
      MarksAfter (Splice other start count come) old new.marks → IsKept first k line most old.inputs.files old.marks → IsKept first j now (most + 1) new.inputs.files new.marks
  line_spliced k line j now most other start count come old new few (e, way) a (mark, s, is) u =
      at_these k j now now (most + 1) (spliced old.inputs.files other start count come) new.inputs.files (slice_set old.marks other mark) new.marks e refl (ap (λ (i : Inputs). i.files) (splice_accepted other start count come old.inputs new.inputs a).is) is (by_file way)
    where
      here : (o : ℕ) → o ≡ k → Moves start count (length come) line now → Splices start count (length come) (mark_at old.marks o) mark → IsKept first k now (most + 1) (spliced old.inputs.files o start count come) (slice_set old.marks o mark)
      here o same moves s =
          let own = rw same at s in
          rw same
          (line_here k _ _ _ _ _ _ _ _ _ _ few moves own u)

      by_file : IfHolds (other ≡ k) (Moves start count (length come) line now) (now ≡ line) → IsKept first k now (most + 1) (spliced old.inputs.files other start count come) (slice_set old.marks other mark)
      by_file (inl (same, moves)) = here other same moves s
      by_file (inr (apart, stays)) =
          rw stays
          (more_kept k _ _ _ _ _ (omega arith)
          (line_apart k _ _ _ _ _ _ _ apart u))

  -- the line after one edit, and how many stretches there are at most
  abbrev Further : ℕ → ℕ → ℕ → Watched → Type 0
  Further j now left new = (most : ℕ) × (most + left ≤ most_stretches) × IsKept first j now most new.inputs.files new.marks

  line_same : (edit : Edit) (later : List Edit) (k line j now most : ℕ) (old new : Watched) → most + splices later ≤ most_stretches → LeavesAll edit old.inputs × (j ≡ k) × (now ≡ line) → Applies edit old.inputs (Ok new.inputs) → MarksAfter edit old new.marks →
      IsKept first k line most old.inputs.files old.marks → Further j now (splices later) new
  line_same edit later k line j now most old new few (h, e, f) a m u =
      let same = all_left edit old new h a m in
      (most, few, at_these k j line now most old.inputs.files new.inputs.files old.marks new.marks e f same.0 same.1 u)

  line_accepted : (edit : Edit) (later : List Edit) (k line j now most : ℕ) (old new : Watched) → most + splices (edit ∷ later) ≤ most_stretches → Stays k line edit old.inputs j now → Applies edit old.inputs (Ok new.inputs) → MarksAfter edit old new.marks →
      IsKept first k line most old.inputs.files old.marks → Further j now (splices later) new
  line_accepted (AddFile name lines) later k line j now most old new few (e, f) a m u =
      let file = whole_file name lines in
      let mark = new_mark (length lines) in
      (most, few, at_these k j line now most (old.inputs.files ++ file ∷ []) new.inputs.files (old.marks ++ mark ∷ []) new.marks e f (ap (λ (i : Inputs). i.files) (added_file name lines old.inputs new.inputs a)) m (line_added k line most old.inputs.files old.marks file mark u))
  line_accepted (AddMissing name) later k line j now most old new few (e, f) a m u =
      let file = missing_file name in
      (most, few, at_these k j line now most (old.inputs.files ++ file ∷ []) new.inputs.files (old.marks ++ new_mark 0 ∷ []) new.marks e f (ap (λ (i : Inputs). i.files) (added_missing name old.inputs new.inputs a)) m (line_added k line most old.inputs.files old.marks file (new_mark 0) u))
  line_accepted (DropFile other) later k line j now most old new few (e, f) a m u =
      (most, few, at_these j j line now most (remove old.inputs.files other) new.inputs.files (remove old.marks other) new.marks refl f (ap (λ (i : Inputs). i.files) (file_dropped other old.inputs new.inputs a)) m (line_dropped k j line most other old.inputs.files old.marks e u))
  line_accepted (Splice other start count come) later k line j now most old new few h a m u =
      (most + 1, omega arith, line_spliced k line j now most other start count come old new (omega arith) h a m u)
  line_accepted (AddPatterns list) later k line j now most old new few h a m u = absurd h.0
  line_accepted (DropPattern p) later k line j now most old new few h a m u = absurd h.0
  line_accepted (ChangePattern p text) later k line j now most old new few h a m u = line_same (ChangePattern p text) later k line j now most old new few h a m u
  line_accepted (SetFlag flag on) later k line j now most old new few h a m u = line_same (SetFlag flag on) later k line j now most old new few h a m u
  line_accepted (SetSyntax syntax) later k line j now most old new few h a m u = line_same (SetSyntax syntax) later k line j now most old new few h a m u
  line_accepted (SetContext context) later k line j now most old new few h a m u = line_same (SetContext context) later k line j now most old new few h a m u

  line_given : (edit : Edit) (answer : Result (Unit {0}) EditFault) (later : List Edit) (k line j now most : ℕ) (old new : Watched) → most + splices (with_accepted edit answer later) ≤ most_stretches → EditGives edit old.inputs new.inputs answer → MarksGiven edit old new.marks answer →
      MatchResult answer (λ _. Stays k line edit old.inputs j now) (λ _. (j ≡ k) × (now ≡ line)) → IsKept first k line most old.inputs.files old.marks → Further j now (splices later) new
  line_given edit (Ok done) later k line j now most old new few g m h u = line_accepted edit later k line j now most old new few h g m u
  line_given edit (Err fault) later k line j now most old new few g m (e, f) u =
      (most, few, at_these k j line now most old.inputs.files new.inputs.files old.marks new.marks e f (ap (λ (i : Inputs). i.files) (refused_same (Unit {0}) edit old.inputs new.inputs fault g)) m u)

  line_left : (tried : List Attempt) (k line j now most : ℕ) (old new : Watched) → most + splices (accepted tried) ≤ most_stretches → EachStays k line tried old new j now → IsKept first k line most old.inputs.files old.marks → Further j now 0 new
  line_left [] k line j now most old new few (same, e, f) u =
      (most, omega arith, at_these k j line now most old.inputs.files new.inputs.files old.marks new.marks e f (ap (λ (w : Watched). w.inputs.files) same) (ap (λ (w : Watched). w.marks) same) u)
  line_left (attempt ∷ more) k line j now most old new few (between, file, place, gives, marked, stays, rest) u =
      let next = line_given attempt.edit attempt.answer (accepted more) k line file place most old between few gives marked stays u in
      line_left more file place j now next.0 between new next.1 rest next.2

-- a file of which there is a line is there
file_there : (files : List File) (k line : ℕ) → line < length (file_at files k).lines → k < length files
file_there [] k line l = absurd (omega arith)
file_there (file ∷ files) zero line l = omega arith
file_there (file ∷ files) (suc k) line l = omega (arith, file_there files k line l)

pub untouched_lines : UntouchedLines
untouched_lines tried old new k line j now es changes within few stays are =
    let files = old.inputs.files in
    let marks = (all_known old).marks in
    let inside = file_there files k line within in
    let long : k < length marks = omega (arith, length-map files (λ (file : File). whole_mark (length file.lines))) in
    let whole : mark_at marks k ≡ whole_mark (length (file_at files k).lines) = known_at files k inside in
    let begun : IsKept line k line 0 files marks =
    (inside, long, rw whole refl, rw whole (omega arith)) in
    let left = line_left line tried k line j now 0 (all_known old) new (omega arith) stays begun in
    let change = three-at (ChangesFile es new.inputs.options) new.inputs.files new.marks changes j (file_at [] j) (whole_mark 0) [] left.2.0 are in
    leave_kept es new.inputs.options (mark_at new.marks j).stretches (changes_at changes j) 0 line now line now (file_at new.inputs.files j).lines (omega arith) (omega arith) left.2.2 change
