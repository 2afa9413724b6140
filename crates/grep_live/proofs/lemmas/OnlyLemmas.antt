-- Only what changed is reported.
use Rattle.{grep_live.proofs.{Prelude.{◌≡◌, ℕ, zero, suc, ◌+◌, ◌-◌, ◌<◌, ◌≤◌, Bool, true, false, List, [], ◌∷◌, ◌++◌, length, map, take, drop, get_or, Result, Ok, Err, ◌⊎◌, refl, sym, ap, subst, ◌∙◌, inl, inr, arith, set, cases_eq, cases_lt, append-nil, length-append, length-map, length-set, length-take, get_or-take, get_or-set_same, get_or-set_other, get_or_append_left, slice_set, nat_eq, ◌&&◌, if◌then◌else◌, flat_map, IfOk, remove, splice, Text, Expression, Flag, Options, File, Inputs, file_at, EditFault, Edit, AddFile, AddMissing, DropFile, Splice, AddPatterns, DropPattern, ChangePattern, SetFlag, SetSyntax, SetContext, Applies, EditGives, whole_file, missing_file, spliced, option_of, Attempt, Marked, Stretch, Fits, IsAfter, IsBefore, Keeps, Moves, Splices, AllThree, Hit, Watched, whole_mark, new_mark, mark_at, changes_hits, IsFit, AreFit, MarksAfter, MarksGiven, Change, AreChanges, ChangesFile, AreWithin, hit_row, change_row, change_rows, changes_rows, all_known, changes_at, AreBetween, OneSplice, LeavesAll, LeavesEnds, EachLeavesEnds, OnlyTouched}, lemmas.{ListLemmas.three-at, HitLemmas.within_wider, CatchLemmas.come_within, TwiceLemmas.{one_silent, all_silent}, CarryLemmas.{added_file, added_missing, changed_pattern, context_set, edits_carry, file_dropped, option_set, refused_same, splice_accepted, syntax_set}}}, std.{specs.Bool.⊤, proofs.lemmas.List.get_or-map}, grep_session.proofs.lemmas.FitLemmas.{fit_at, known_fit}}

-- ---- hits in the order of their places

-- there are at most as many hits as places
within_few : (a b : ℕ) (hits : List Hit) → AreWithin a b hits → length hits ≤ b - a
within_few a b [] w = omega arith
within_few a b (hit ∷ more) w = omega (arith, w.0, w.1, within_few (hit.place + 1) b more w.2)

-- ---- the ends of a file

-- the first stretch comes after the first lines, where it follows the line before place n
abbrev FrontLeft : ℕ → ℕ → List Stretch → Type 0
FrontLeft front n [] = ⊤
FrontLeft front n (stretch ∷ more) = front ≤ n + stretch.kept

-- of these lines the last ones come after all stretches
abbrev BackLeft : ℕ → ℕ → List Stretch → Type 0
BackLeft back lines [] = ⊤
BackLeft back lines (stretch ∷ more) = (later : ℕ) × (lines ≡ stretch.kept + stretch.added + later) × (back ≤ later) × BackLeft back later more

front_left : (front : ℕ) (stretches : List Stretch) → ((place : ℕ) → place < front → IsBefore stretches place) → FrontLeft front 0 stretches
front_left front [] h = tt
front_left front (stretch ∷ more) h = by_place (cases_lt stretch.kept front)
  where
    by_place : (stretch.kept < front) ⊎ (front ≤ stretch.kept) → front ≤ 0 + stretch.kept
    by_place (inl l) = absurd (omega (arith, h stretch.kept l))
    by_place (inr l) = omega arith

further_on : (front n : ℕ) (stretches : List Stretch) → front ≤ n → FrontLeft front n stretches
further_on front n [] l = tt
further_on front n (stretch ∷ more) l = omega arith

back_left : (back lines place : ℕ) (stretches : List Stretch) → lines ≡ place + back → IsAfter stretches place → BackLeft back lines stretches
back_left back lines place [] e h = tt
back_left back lines place (stretch ∷ more) e (later, is, after) = (later + back, omega arith, omega arith, back_left back (later + back) later more refl after)

-- these last lines were known
back_known : (back known lines : ℕ) (stretches : List Stretch) → Fits known lines stretches → BackLeft back lines stretches → back ≤ lines → back ≤ known
back_known back known lines [] fits b l = omega arith
back_known back known lines (stretch ∷ more) (old, new, was, is, fits) (later, there, low, rest) l =
    let same : later ≡ new = omega arith in
    let left = back_known back old new more fits (rw same at rest) (omega arith) in
    omega arith

-- the changes of a file whose ends are left
changes_between : (es : List Expression) (options : Options) (front back now : ℕ) (stretches : List Stretch) (changes : List Change) (n many old new : ℕ) (lines : List Text) → many ≡ n + old → now ≡ n + new → Fits old new stretches →
    FrontLeft front n stretches → BackLeft back new stretches → AreChanges es options n lines stretches changes → AreBetween front back many now changes
changes_between es options front back now [] changes n many old new lines was is fits f b c =
    let same : now ≡ many = omega arith in
    rw c same
changes_between es options front back now (stretch ∷ more) [] n many old new lines was is fits f b c = absurd c
changes_between es options front back now (stretch ∷ more) (change ∷ changes) n many old new lines was is (older, newer, left, there, fits) f (later, at, low, rest) (is_front, is_removed, is_added, are_hits, others) =
    let past = stretch.kept + stretch.added in
    let same : later ≡ newer = omega arith in
    let back_rest : BackLeft back newer more = rw same at rest in
    let known : back ≤ older = back_known back older newer more fits back_rest (omega arith) in
    let after = many - change.removed + change.added in
    let after_is : after ≡ (n + past) + older = omega arith in
    let hits : AreWithin (n + stretch.kept) ((n + stretch.kept) + (past - stretch.kept)) change.come = come_within es options (n + stretch.kept) stretch.kept past lines change.come are_hits in (
      omega arith,
      omega arith,
      within_wider front (n + stretch.kept) ((n + stretch.kept) + (past - stretch.kept)) (after - back) change.come f (omega arith) hits,
      changes_between es options front back now more changes (n + past) after older newer (drop past lines) after_is (omega arith) fits (further_on front (n + past) more (omega arith)) back_rest others,
    )

-- ---- one splice

-- a change of nothing has no rows
rows_none : (texts : Bool) (k : ℕ) (change : Change) → change.removed ≡ 0 → change.added ≡ 0 → change_rows texts k change ≡ []
rows_none texts k change r a =
    let idle : (nat_eq change.removed 0 && nat_eq change.added 0) ≡ true = λ i. nat_eq (r i) 0 && nat_eq (a i) 0 in
    ap (λ b. if b then [] else change_row k change ∷ map (hit_row texts) change.come) idle

-- where all files but one are as they were reported, rows are written of this one alone
rows_of_one : (texts : Bool) (es : List Expression) (options : Options) (n k : ℕ) (files : List File) (changes : List (List Change)) (file : File) (mark : Marked) → k < length files →
    AllThree (ChangesFile es options) (set files k file) (set (map (λ file. whole_mark (length file.lines)) files) k mark) changes → changes_rows texts n changes ≡ flat_map (change_rows texts (n + k)) (changes_at changes k)
rows_of_one texts es options n k [] changes file mark l c = absurd (omega arith)
rows_of_one texts es options n zero (first ∷ files) [] file mark l c = absurd c
rows_of_one texts es options n zero (first ∷ files) (change ∷ changes) file mark l c =
    let same : n ≡ n + 0 = omega arith in
    ap (λ rows. flat_map (change_rows texts n) change ++ rows) (all_silent texts es options (n + 1) files changes c.1) ∙ append-nil (flat_map (change_rows texts n) change) ∙ ap (λ m. flat_map (change_rows texts m) change) same
rows_of_one texts es options n (suc k) (first ∷ files) [] file mark l c = absurd c
rows_of_one texts es options n (suc k) (first ∷ files) (change ∷ changes) file mark l c =
    let same : (n + 1) + k ≡ n + suc k = omega arith in
    ap (λ rows. rows ++ changes_rows texts (n + 1) changes) (one_silent texts es options n first change c.0)
    ∙ rows_of_one texts es options (n + 1) k files changes file mark (omega arith) c.1
    ∙ ap (λ m. flat_map (change_rows texts m) (changes_at changes k)) same

-- the mark of a file that was reported as it is
pub known_at : (files : List File) (k : ℕ) → k < length files → mark_at (map (λ file. whole_mark (length file.lines)) files) k ≡ whole_mark (length (file_at files k).lines)
known_at files k inside = get_or-map (λ (file : File). whole_mark (length file.lines)) files k (file_at [] k) (whole_mark 0) inside

-- what a splice replaced, by the lines that it keeps of a file that was reported
module _ (start count added kept removed put : ℕ) where
  -- nothing was replaced, or these lines by so many
  abbrev IsSpliced : Type 0
  IsSpliced = ((removed ≡ 0) × (put ≡ 0) × (count ≡ 0) × (added ≡ 0)) ⊎ ((kept ≡ start) × (removed ≡ count) × (put ≡ added))

  -- the line is kept by the stretch
  abbrev Stayed : ℕ → ℕ → Type 0
  Stayed line now = ((line < kept) × (now ≡ line)) ⊎ ((past : ℕ) × (line ≡ kept + removed + past) × (now ≡ kept + put + past))

  module _ (only : (line now : ℕ) → Stayed line now → Moves start count added line now) (all : (line now : ℕ) → Moves start count added line now → Stayed line now) where
    kept_before_start : kept < start → IsSpliced
    kept_before_start l = by_stretch (all kept kept (inl (l, refl)))
      where
        by_start : removed ≡ 0 → put ≡ 0 → Moves start count added start start → IsSpliced
        by_start r p (inl (h, e)) = absurd (omega arith)
        by_start r p (inr (past, e, f)) = inl (r, p, omega arith, omega arith)

        by_stretch : Stayed kept kept → IsSpliced
        by_stretch (inl (h, e)) = absurd (omega arith)
        by_stretch (inr (past, e, f)) =
            let r : removed ≡ 0 = omega arith in
            let p : put ≡ 0 = omega arith in
            by_start r p (only start start (inr (start - kept, omega arith, omega arith)))

    start_before_kept : start < kept → IsSpliced
    start_before_kept l = by_start (only start start (inl (l, refl)))
      where
        by_stretch : count ≡ 0 → added ≡ 0 → Stayed kept kept → IsSpliced
        by_stretch c a (inl (h, e)) = absurd (omega arith)
        by_stretch c a (inr (past, e, f)) = inl (omega arith, omega arith, c, a)

        by_start : Moves start count added start start → IsSpliced
        by_start (inl (h, e)) = absurd (omega arith)
        by_start (inr (past, e, f)) =
            let c : count ≡ 0 = omega arith in
            let a : added ≡ 0 = omega arith in
            by_stretch c a (all kept kept (inr (kept - start, omega arith, omega arith)))

    same_start : kept ≡ start → IsSpliced
    same_start k =
        by_both (only (kept + removed) (kept + put) (inr (0, omega arith, omega arith))) (all (start + count) (start + added) (inr (0, omega arith, omega arith)))
      where
        by_both : Moves start count added (kept + removed) (kept + put) → Stayed (start + count) (start + added) → IsSpliced
        by_both (inl (h, e)) q = absurd (omega arith)
        by_both (inr (past, e, f)) (inl (h, g)) = absurd (omega arith)
        by_both (inr (past, e, f)) (inr (more, g, h)) = inr (k, omega arith, omega arith)

    pub pinned : IsSpliced
    pinned = by_place (cases_lt kept start) (cases_lt start kept)
      where
        by_place : (kept < start) ⊎ (start ≤ kept) → (start < kept) ⊎ (kept ≤ start) → IsSpliced
        by_place (inl l) q = kept_before_start l
        by_place (inr l) (inl m) = start_before_kept m
        by_place (inr l) (inr m) = same_start (omega arith)

-- a line that a splice of a reported file keeps
module _ (start count added n : ℕ) (mark : Marked) (s : Splices start count added (whole_mark n) mark) where
  only_moves : (line now : ℕ) → Keeps mark.stretches line now → Moves start count added line now
  only_moves line now keeps =
      let was = s.only line now keeps in
      rw was.1 at was.2

  all_moves : (line now : ℕ) → Moves start count added line now → Keeps mark.stretches line now
  all_moves line now moves = s.all (omega arith) line line now refl moves

-- one stretch, with the lines after it in the same order
module _ (stretch : Stretch) (line now : ℕ) where
  stayed : Keeps (stretch ∷ []) line now → ((line < stretch.kept) × (now ≡ line)) ⊎ ((past : ℕ) × (line ≡ stretch.kept + stretch.removed + past) × (now ≡ stretch.kept + stretch.added + past))
  stayed (inl h) = inl h
  stayed (inr (past, later, was, is, same)) = inr (past, was, omega arith)

  keeps_one : ((line < stretch.kept) × (now ≡ line)) ⊎ ((past : ℕ) × (line ≡ stretch.kept + stretch.removed + past) × (now ≡ stretch.kept + stretch.added + past)) → Keeps (stretch ∷ []) line now
  keeps_one (inl h) = inl h
  keeps_one (inr (past, was, is)) = inr (past, past, was, is, refl)

-- the rows of one file in which lines were replaced
record ReportsFile (k start count added : ℕ) (changes : List Change) : Type 0 where
  come : List Hit
  rows : (texts : Bool) → flat_map (change_rows texts k) changes ≡ change_rows texts k (record { front = start; removed = count; added = added; come = come })
  few_hits : length come ≤ added

nothing_put : (k start count added : ℕ) (changes : List Change) → count ≡ 0 → added ≡ 0 → ((texts : Bool) → flat_map (change_rows texts k) changes ≡ []) → ReportsFile k start count added changes
nothing_put k start count added changes c a none = record {
  come = [];
  rows = λ texts. none texts ∙ sym (rows_none texts k (record { front = start; removed = count; added = added; come = [] }) c a);
  few_hits = omega arith;
}

reports_file : (es : List Expression) (options : Options) (k start count added n : ℕ) (lines : List Text) (mark : Marked) (stretches : List Stretch) (changes : List Change) → mark.stretches ≡ stretches → Splices start count added (whole_mark n) mark →
    AreChanges es options 0 lines stretches changes → ReportsFile k start count added changes
reports_file es options k start count added n lines mark [] changes is s c =
    by_start (only_moves start count added n mark s start start (rw is refl))
  where
    by_start : Moves start count added start start → ReportsFile k start count added changes
    by_start (inl (h, e)) = absurd (omega arith)
    by_start (inr (past, e, f)) = nothing_put k start count added changes (omega arith) (omega arith) (λ texts. ap (flat_map (change_rows texts k)) c)
reports_file es options k start count added n lines mark (stretch ∷ []) [] is s c = absurd c
reports_file es options k start count added n lines mark (stretch ∷ []) (change ∷ changes) is s (is_front, is_removed, is_added, are_hits, none) =
    by_way (pinned start count added stretch.kept stretch.removed stretch.added
    (λ line now h. only_moves start count added n mark s line now (rw is (keeps_one stretch line now h)))
    (λ line now h. stayed stretch line now (rw is at (all_moves start count added n mark s line now h))))
  where
    alone : (texts : Bool) → flat_map (change_rows texts k) (change ∷ changes) ≡ change_rows texts k change
    alone texts = ap (λ l. flat_map (change_rows texts k) (change ∷ l)) none ∙ append-nil (change_rows texts k change)

    by_way : IsSpliced start count added stretch.kept stretch.removed stretch.added → ReportsFile k start count added (change ∷ changes)
    by_way (inl (r, p, c, a)) = nothing_put k start count added (change ∷ changes) c a (λ texts. alone texts ∙ rows_none texts k change (is_removed ∙ r) (is_added ∙ p))
    by_way (inr (f, r, a)) =
        let first : change.front ≡ start = omega (arith, is_front, f) in
        let few = within_few (0 + stretch.kept) ((0 + stretch.kept) + ((stretch.kept + stretch.added) - stretch.kept)) change.come (come_within es options (0 + stretch.kept) stretch.kept (stretch.kept + stretch.added) lines change.come are_hits) in
        record {
          come = change.come;
          rows = λ texts. alone texts ∙ ap (change_rows texts k) (λ i. record { front = first i; removed = (is_removed ∙ r) i; added = (is_added ∙ a) i; come = change.come });
          few_hits = omega (arith, few, a);
        }
reports_file es options k start count added n lines mark (stretch ∷ (other ∷ more)) changes is s c =
    let many : length mark.stretches ≡ suc (suc (length more)) = ap length is in
    absurd (omega (arith, many, s.one_more))

pub one_splice : OneSplice
one_splice old new k start count lines es changes applies (mark, s, marked) are =
    let put = splice_accepted k start count lines old.inputs new.inputs applies in
    let files = old.inputs.files in
    let marks = (all_known old).marks in
    let options = old.inputs.options in
    let file = file_at files k in
    let n = length file.lines in
    let new_file = record file { lines = splice file.lines start (start + count) lines } in
    let here : AllThree (ChangesFile es options) (set files k new_file) (set marks k mark) changes =
    subst (λ (w : Watched). AllThree (ChangesFile es w.inputs.options) w.inputs.files w.marks changes) (λ i. record { inputs = put.is i; marks = marked i; states = new.states }) are in
    let there = three-at (ChangesFile es options) (set files k new_file) (set marks k mark) changes k (file_at [] k) (whole_mark 0) [] (omega (arith, put.inside, length-set files k new_file)) here in
    let is_file : get_or (set files k new_file) k (file_at [] k) ≡ new_file = get_or-set_same files k new_file (file_at [] k) put.inside in
    let is_mark : get_or (set marks k mark) k (whole_mark 0) ≡ mark = get_or-set_same marks k mark (whole_mark 0) (omega (arith, put.inside, length-map files (λ (file : File). whole_mark (length file.lines)))) in
    let change : ChangesFile es options new_file mark (changes_at changes k) =
    subst (λ (m : Marked). ChangesFile es options new_file m (changes_at changes k)) is_mark (subst (λ (f : File). ChangesFile es options f (get_or (set marks k mark) k (whole_mark 0)) (changes_at changes k)) is_file there) in
    let own : Splices start count (length lines) (whole_mark n) mark = subst (λ (m : Marked). Splices start count (length lines) m mark) (known_at files k put.inside) s in
    let is = reports_file es options k start count (length lines) n new_file.lines mark mark.stretches (changes_at changes k) refl own change in
    let same : 0 + k ≡ k = omega arith in
    record {
      come = is.come;
      rows = λ texts. rows_of_one texts es options 0 k files changes new_file mark put.inside here ∙ ap (λ m. flat_map (change_rows texts m) (changes_at changes k)) same ∙ is.rows texts;
      few_hits = is.few_hits;
    }

-- ---- edits that leave lines of a file as they are

-- no line among the first and the last ones was replaced, of a file that had so many lines
abbrev AreUntouched : ℕ → ℕ → ℕ → Marked → Type 0
AreUntouched front back known mark =
    (mark.known ≡ known) × ((mark.stretches ≡ []) ⊎ (back ≤ mark.lines)) × ((place : ℕ) → place < front → IsBefore mark.stretches place) × ((past : ℕ) → IsAfter mark.stretches ((mark.lines - back) + past))

-- file k is there with its mark, and its ends are untouched
abbrev EndsUntouched : ℕ → ℕ → ℕ → ℕ → List File → List Marked → Type 0
EndsUntouched k front back known files marks = (k < length files) × (k < length marks) × AreUntouched front back known (mark_at marks k)

-- an element before one that is removed
pub kept_before : {A : Type 0} (xs : List A) (k other : ℕ) (d : A) → k < other → k < length xs → (k < length (remove xs other)) × (get_or (remove xs other) k d ≡ get_or xs k d)
kept_before xs k other d l h =
    let long : k < length (take other xs) = omega (arith, length-take other xs) in (
      omega (arith, length-append (take other xs) (drop (suc other) xs)),
      get_or_append_left (take other xs) (drop (suc other) xs) d k long ∙ get_or-take other xs k d l,
    )

pub flag_leaves : (flag : Flag) (on : Bool) (old : Watched) (marks : List Marked) → (changes_hits flag ≡ false) ⊎ (option_of flag old.inputs.options ≡ on) → MarksAfter (SetFlag flag on) old marks → marks ≡ old.marks
flag_leaves flag on old marks h (inl (same, e)) = e
flag_leaves flag on old marks (inl h) (inr (other, e)) = rw h at e
flag_leaves flag on old marks (inr h) (inr (other, e)) = absurd (other h)

-- what leaves all leaves files and marks
pub all_left : (edit : Edit) (old new : Watched) → LeavesAll edit old.inputs → Applies edit old.inputs (Ok new.inputs) → MarksAfter edit old new.marks → (new.inputs.files ≡ old.inputs.files) × (new.marks ≡ old.marks)
all_left (ChangePattern p text) old new h a m = (ap (λ (i : Inputs). i.files) (changed_pattern p text old.inputs new.inputs a), elim m [ inl e ↦ e.1 | inr e ↦ absurd (e.0 h) ])
all_left (SetFlag flag on) old new h a m = (ap (λ (i : Inputs). i.files) (option_set flag on old.inputs new.inputs a), flag_leaves flag on old new.marks h m)
all_left (SetSyntax syntax) old new h a m = (ap (λ (i : Inputs). i.files) (syntax_set syntax old.inputs new.inputs a), elim m [ inl e ↦ e.1 | inr e ↦ absurd (e.0 h) ])
all_left (SetContext context) old new h a m = (ap (λ (i : Inputs). i.files) (context_set context old.inputs new.inputs a), m)
all_left (AddFile name lines) old new h a m = absurd h
all_left (AddMissing name) old new h a m = absurd h
all_left (DropFile k) old new h a m = absurd h
all_left (Splice k start count lines) old new h a m = absurd h
all_left (AddPatterns list) old new h a m = absurd h
all_left (DropPattern p) old new h a m = absurd h

module _ (k front back known : ℕ) where
  -- other lists with the same mark at this place
  same_ends : (files new : List File) (marks more : List Marked) → k < length new → k < length more → mark_at more k ≡ mark_at marks k → EndsUntouched k front back known files marks → EndsUntouched k front back known new more
  same_ends files new marks more a b is_mark u = (a, b, rw is_mark u.2)

  -- lists that are these
  as_these : (files new : List File) (marks more : List Marked) → new ≡ files → more ≡ marks → EndsUntouched k front back known files marks → EndsUntouched k front back known new more
  as_these files new marks more f m u = rw f (rw m u)

  ends_added : (files : List File) (marks : List Marked) (file : File) (mark : Marked) → EndsUntouched k front back known files marks → EndsUntouched k front back known (files ++ file ∷ []) (marks ++ mark ∷ [])
  ends_added files marks file mark u =
      same_ends _ _ _ _ (omega (arith, u.0, length-append files (file ∷ []))) (omega (arith, u.1, length-append marks (mark ∷ []))) (get_or_append_left marks (mark ∷ []) (whole_mark 0) k u.1) u

  ends_dropped : (files : List File) (marks : List Marked) (other : ℕ) → k < other → EndsUntouched k front back known files marks → EndsUntouched k front back known (remove files other) (remove marks other)
  ends_dropped files marks other l u =
      let file = kept_before files k other (file_at [] k) l u.0 in
      let mark = kept_before marks k other (whole_mark 0) l u.1 in
      same_ends _ _ _ _ file.0 mark.0 mark.1 u

  -- lines of another file were replaced
  ends_apart : (files : List File) (marks : List Marked) (other : ℕ) (file : File) (mark : Marked) → (other ≡ k → ⊥) → EndsUntouched k front back known files marks → EndsUntouched k front back known (set files other file) (set marks other mark)
  ends_apart files marks other file mark apart u =
      same_ends _ _ _ _ (omega (arith, u.0, length-set files other file)) (omega (arith, u.1, length-set marks other mark)) (get_or-set_other marks other k mark (whole_mark 0) (λ e. apart (sym e))) u

  -- lines of this file between its ends were replaced
  touched_between : (start count added : ℕ) (old new : Marked) → front ≤ start → start + count + back ≤ old.lines → Splices start count added old new → AreUntouched front back known old → AreUntouched front back known new
  touched_between start count added old new a b s (same, some, before, after) = (
    s.known ∙ same,
    inr (omega (arith, s.lines)),
    (λ place l. s.before place (omega arith) (before place l)),
    (λ past.
        let x = (old.lines - back - (start + count)) + past in
        let was : (old.lines - back) + past ≡ start + count + x = omega arith in
        let is : start + added + x ≡ (new.lines - back) + past = omega (arith, s.lines) in
        rw is at (s.after x (rw was at (after past)))),
  )

  ends_here : (files : List File) (marks : List Marked) (file : File) (start count added : ℕ) (mark : Marked) → front ≤ start → start + count + back ≤ (mark_at marks k).lines → Splices start count added (mark_at marks k) mark → EndsUntouched k front back known files marks →
      EndsUntouched k front back known (set files k file) (set marks k mark)
  ends_here files marks file start count added mark a b s u =
      let is_mark = sym (get_or-set_same marks k mark (whole_mark 0) u.1) in
      (omega (arith, u.0, length-set files k file), omega (arith, u.1, length-set marks k mark), rw is_mark at (touched_between _ _ _ _ _ a b s u.2))

  ends_spliced : (other start count : ℕ) (come : List Text) (old new : Watched) → AreFit old.inputs.files old.marks → LeavesEnds k front back (Splice other start count come) old.inputs → Applies (Splice other start count come) old.inputs (Ok new.inputs) → MarksAfter (Splice other start count come) old new.marks →
      EndsUntouched k front back known old.inputs.files old.marks → EndsUntouched k front back known new.inputs.files new.marks
  ends_spliced other start count come old new fit h a (mark, s, is) u =
      as_these _ _ _ _ (rw ((splice_accepted other start count come old.inputs new.inputs a).is)) is (by_file h (cases_eq other k))
    where
      apart : (other ≡ k → ⊥) → EndsUntouched k front back known (spliced old.inputs.files other start count come) (slice_set old.marks other mark)
      apart e = ends_apart _ _ _ _ _ e u

      here : (o : ℕ) → o ≡ k → front ≤ start → start + count + back ≤ length (file_at old.inputs.files k).lines → Splices start count (length come) (mark_at old.marks o) mark → EndsUntouched k front back known (spliced old.inputs.files o start count come) (slice_set old.marks o mark)
      here o e first within s =
          let own = rw e at s in
          let lines = (fit_at old.inputs.files old.marks fit k u.0).0 in
          rw e
          (ends_here _ _ _ _ _ _ _ first (omega arith) own u)

      by_file : LeavesEnds k front back (Splice other start count come) old.inputs → (other ≡ k) ⊎ (other ≡ k → ⊥) → EndsUntouched k front back known (spliced old.inputs.files other start count come) (slice_set old.marks other mark)
      by_file (inl e) q = apart e
      by_file (inr p) (inr e) = apart e
      by_file (inr (first, last)) (inl e) = here other e first last s

  ends_same : (edit : Edit) (old new : Watched) → LeavesAll edit old.inputs → Applies edit old.inputs (Ok new.inputs) → MarksAfter edit old new.marks → EndsUntouched k front back known old.inputs.files old.marks → EndsUntouched k front back known new.inputs.files new.marks
  ends_same edit old new h a m u =
      let e = all_left edit old new h a m in
      as_these old.inputs.files new.inputs.files old.marks new.marks e.0 e.1 u

  ends_accepted : (edit : Edit) (old new : Watched) → AreFit old.inputs.files old.marks → LeavesEnds k front back edit old.inputs → Applies edit old.inputs (Ok new.inputs) → MarksAfter edit old new.marks → EndsUntouched k front back known old.inputs.files old.marks → EndsUntouched k front back known new.inputs.files new.marks
  ends_accepted (AddFile name lines) old new fit h a m u =
      let file = whole_file name lines in
      let mark = new_mark (length lines) in
      let is = added_file name lines old.inputs new.inputs a in
      as_these (old.inputs.files ++ file ∷ []) new.inputs.files (old.marks ++ mark ∷ []) new.marks (ap (λ (i : Inputs). i.files) is) m (ends_added old.inputs.files old.marks file mark u)
  ends_accepted (AddMissing name) old new fit h a m u =
      let file = missing_file name in
      let is = added_missing name old.inputs new.inputs a in
      as_these (old.inputs.files ++ file ∷ []) new.inputs.files (old.marks ++ new_mark 0 ∷ []) new.marks (ap (λ (i : Inputs). i.files) is) m (ends_added old.inputs.files old.marks file (new_mark 0) u)
  ends_accepted (DropFile other) old new fit h a m u =
      let is = file_dropped other old.inputs new.inputs a in
      as_these (remove old.inputs.files other) new.inputs.files (remove old.marks other) new.marks (ap (λ (i : Inputs). i.files) is) m (ends_dropped old.inputs.files old.marks other h u)
  ends_accepted (Splice other start count lines) old new fit h a m u = ends_spliced other start count lines old new fit h a m u
  ends_accepted (AddPatterns list) old new fit h a m u = absurd h
  ends_accepted (DropPattern p) old new fit h a m u = absurd h
  ends_accepted (ChangePattern p text) old new fit h a m u = ends_same (ChangePattern p text) old new h a m u
  ends_accepted (SetFlag flag on) old new fit h a m u = ends_same (SetFlag flag on) old new h a m u
  ends_accepted (SetSyntax syntax) old new fit h a m u = ends_same (SetSyntax syntax) old new h a m u
  ends_accepted (SetContext context) old new fit h a m u = ends_same (SetContext context) old new h a m u

  ends_given : (edit : Edit) (answer : Result (Unit {0}) EditFault) (old new : Watched) → AreFit old.inputs.files old.marks → EditGives edit old.inputs new.inputs answer → MarksGiven edit old new.marks answer → IfOk answer (λ _. LeavesEnds k front back edit old.inputs) →
      EndsUntouched k front back known old.inputs.files old.marks → EndsUntouched k front back known new.inputs.files new.marks
  ends_given edit (Ok done) old new fit g m h u = ends_accepted edit old new fit h g m u
  ends_given edit (Err fault) old new fit g m h u =
      as_these old.inputs.files new.inputs.files old.marks new.marks (ap (λ (i : Inputs). i.files) (refused_same (Unit {0}) edit old.inputs new.inputs fault g)) m u

  ends_left : (tried : List Attempt) (old new : Watched) → AreFit old.inputs.files old.marks → EachLeavesEnds k front back tried old new → EndsUntouched k front back known old.inputs.files old.marks →
      AreFit new.inputs.files new.marks × EndsUntouched k front back known new.inputs.files new.marks
  ends_left [] old new fit same u = rw same (fit, u)
  ends_left (attempt ∷ more) old new fit (between, gives, marked, leaves, rest) u =
      let next = (edits_carry attempt.edit attempt.answer old between fit gives marked).fit in
      ends_left more between new next rest (ends_given attempt.edit attempt.answer old between fit gives marked leaves u)

-- a file of which the ends are untouched
module _ (es : List Expression) (options : Options) (front back known : ℕ) where
  ends_reported : (file : File) (mark : Marked) (changes : List Change) → IsFit file mark → AreUntouched front back known mark → ChangesFile es options file mark changes → AreBetween front back known (length file.lines) changes
  ends_reported file mark changes fit (same, some, before, after) c = by_stretches some
    where
      by_back : BackLeft back mark.lines mark.stretches → AreBetween front back known (length file.lines) changes
      by_back b =
          changes_between es options front back (length file.lines) mark.stretches changes 0 known mark.known mark.lines file.lines (omega arith) (omega (arith, fit.0)) fit.1 (front_left front mark.stretches before) b c

      by_stretches : (mark.stretches ≡ []) ⊎ (back ≤ mark.lines) → AreBetween front back known (length file.lines) changes
      by_stretches (inl none) = by_back (rw none tt)
      by_stretches (inr l) = by_back (back_left _ _ _ _ (omega arith) (after 0))

pub only_touched : OnlyTouched
only_touched tried old new k front back es changes inside leave are =
    let files = old.inputs.files in
    let marks = (all_known old).marks in
    let known = length (file_at files k).lines in
    let long : k < length marks = omega (arith, length-map files (λ (file : File). whole_mark (length file.lines))) in
    let whole : mark_at marks k ≡ whole_mark known = known_at files k inside in
    let begun : AreUntouched front back known (mark_at marks k) = rw whole (refl, inl refl, (λ place l. tt), (λ past. tt)) in
    let left = ends_left k front back known tried (all_known old) new (known_fit files) leave (inside, long, begun) in
    let change = three-at (ChangesFile es new.inputs.options) new.inputs.files new.marks changes k (file_at [] k) (whole_mark 0) [] left.1.0 are in
    ends_reported es new.inputs.options front back known (file_at new.inputs.files k) (mark_at new.marks k) (changes_at changes k) (fit_at new.inputs.files new.marks left.0 k left.1.0) left.1.2 change
