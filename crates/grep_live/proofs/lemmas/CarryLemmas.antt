-- What each edit leaves: marks that fit, and views that follow.
use Rattle.{grep_live.proofs.{Prelude.{◌≡◌, ℕ, zero, suc, ◌+◌, ◌<◌, ◌≤◌, Bool, List, [], ◌∷◌, ◌++◌, length, map, get_or, Result, Ok, Err, refl, sym, ap, subst, ◌∙◌, inl, inr, arith, cases_lt, Option, slice_set, remove, splice, Syntax, Text, list_of, Expression, Flag, IgnoreCase, OnlyMatching, InvertMatch, LineRegexp, Context, IfHolds, File, Inputs, AreMeant, Selected, file_at, EditFault, NoSuchFile, FileIsMissing, OutOfRange, LineHasNewline, NoSuchPattern, Pattern, TooManyPatterns, Memory, Edit, AddFile, AddMissing, DropFile, Splice, AddPatterns, DropPattern, ChangePattern, SetFlag, SetSyntax, SetContext, Applies, EditGives, Reads, with_option, with_files, with_patterns, with_context, whole_file, missing_file, spliced, ListedParts, Marked, Splices, AllThree, Hit, HitOf, View, moved, hits_at, Watched, new_mark, whole_mark, mark_at, lost, changes_hits, if◌then◌else◌, MarksAfter, FollowsFile, Follows, view_after, EditsCarry, IsFit, AreFit}, lemmas.{HitLemmas.{HitBy, moved_again, one_moved}, MarkLemmas.{kept_line, none_kept}, ListLemmas.{three-append, three-remove, three-set, three-map, three-weaker}}}, grep_session.proofs.lemmas.{AllPatternsRead.with_same, FitLemmas.{fit_added, fit_dropped, fit_lose, fit_spliced}}}

-- ---- outcomes

-- two new inputs that are the same outcome
same_inputs : {E : Type 0} (a b : Inputs) → ◌≡◌ {A = Result Inputs E} (Ok a) (Ok b) → a ≡ b
same_inputs a b e = cc

not_refused : {E : Type 0} (a : Inputs) (f : E) → ◌≡◌ {A = Result Inputs E} (Ok a) (Err f) → ⊥
not_refused a f e = cc

-- an accepted edit that is refused where P does not hold
accepted_if : {E P : Type 0} (a b : Inputs) (f : E) → IfHolds P (◌≡◌ {A = Result Inputs E} (Ok a) (Ok b)) (◌≡◌ {A = Result Inputs E} (Ok a) (Err f)) → P × (a ≡ b)
accepted_if a b f (inl (p, e)) = (p, same_inputs a b e)
accepted_if a b f (inr (p, e)) = absurd (not_refused a f e)

-- an accepted edit that is refused where P holds
accepted_unless : {E P Q : Type 0} (a : Inputs) (f : E) → IfHolds P (◌≡◌ {A = Result Inputs E} (Ok a) (Err f)) Q → (P → ⊥) × Q
accepted_unless a f (inl (p, e)) = absurd (not_refused a f e)
accepted_unless a f (inr (p, q)) = (p, q)

-- an accepted edit that is refused unless P holds
accepted_where : {E P Q : Type 0} (a : Inputs) (f : E) → IfHolds P Q (◌≡◌ {A = Result Inputs E} (Ok a) (Err f)) → P × Q
accepted_where a f (inl both) = both
accepted_where a f (inr (p, e)) = absurd (not_refused a f e)

accepted_read : (syntax : Syntax) (fold : Bool) (texts : List Text) (a b : Inputs) → Reads syntax fold texts b (Ok a) → a ≡ b
accepted_read syntax fold texts a b (inl (readable, e)) = same_inputs a b e
accepted_read syntax fold texts a b (inr (unreadable, (place, fault, first, e))) = absurd (not_refused a _ e)

-- ---- the new inputs of an accepted edit

-- the files after one was removed
pub file_dropped : (k : ℕ) (old new : Inputs) → Applies (DropFile k) old (Ok new) → new ≡ with_files (remove old.files k) old
file_dropped k old new a = (accepted_if _ _ _ a).1

-- the files after one was added
pub added_file : (name : Text) (lines : List Text) (old new : Inputs) → Applies (AddFile name lines) old (Ok new) → new ≡ with_files (old.files ++ whole_file name lines ∷ []) old
added_file name lines old new a = (accepted_if _ _ _ a).1

pub added_missing : (name : Text) (old new : Inputs) → Applies (AddMissing name) old (Ok new) → new ≡ with_files (old.files ++ missing_file name ∷ []) old
added_missing name old new a = same_inputs _ _ a

pub added_patterns : (list : Text) (old new : Inputs) → Applies (AddPatterns list) old (Ok new) → new ≡ with_patterns (old.patterns ++ list_of list) old
added_patterns list old new a =
    accepted_read _ _ _ _ _ (accepted_unless _ _ a).1

pub dropped_pattern : (p : ℕ) (old new : Inputs) → Applies (DropPattern p) old (Ok new) → new ≡ with_patterns (remove old.patterns p) old
dropped_pattern p old new a = (accepted_if _ _ _ a).1

pub changed_pattern : (p : ℕ) (text : Text) (old new : Inputs) → Applies (ChangePattern p text) old (Ok new) → new ≡ with_patterns (slice_set old.patterns p text) old
changed_pattern p text old new a =
    accepted_read _ _ _ _ _ (accepted_where _ _ a).1

-- a pattern that is changed to itself
changed_to_itself : (patterns : List Text) (p : ℕ) (text : Text) → p < length patterns → text ≡ get_or patterns p [] → slice_set patterns p text ≡ patterns
changed_to_itself [] p text below same = absurd (omega arith)
changed_to_itself (t ∷ ts) zero text below same = rw same
changed_to_itself (t ∷ ts) (suc p) text below same = rw (changed_to_itself ts p text (omega arith) same)

pub option_set : (flag : Flag) (on : Bool) (old new : Inputs) → Applies (SetFlag flag on) old (Ok new) → new ≡ record old { options = with_option flag on old.options }
option_set flag on old new a =
    accepted_read _ _ _ _ _ a

pub syntax_set : (syntax : Syntax) (old new : Inputs) → Applies (SetSyntax syntax) old (Ok new) → new ≡ record old { syntax = syntax }
syntax_set syntax old new a = accepted_read _ _ _ _ _ a

pub context_set : (context : Option Context) (old new : Inputs) → Applies (SetContext context) old (Ok new) → new ≡ with_context context old
context_set context old new a = same_inputs _ _ a

-- the new inputs of a splice, and that there is a place for it
pub record Spliced (k start count : ℕ) (lines : List Text) (old new : Inputs) : Type 0 where
  pub inside : k < length old.files
  pub within : start + count ≤ length (file_at old.files k).lines
  pub is : new ≡ with_files (spliced old.files k start count lines) old

pub splice_accepted : (k start count : ℕ) (lines : List Text) (old new : Inputs) → Applies (Splice k start count lines) old (Ok new) → Spliced k start count lines old new
splice_accepted k start count lines old new a =
    let file = accepted_unless new NoSuchFile a in
    let opened = accepted_unless new FileIsMissing file.1 in
    let place = accepted_unless new OutOfRange opened.1 in
    record {
      inside = elim (cases_lt k (length old.files)) [ inl h ↦ h | inr h ↦ absurd (file.0 h) ];
      within = elim (cases_lt (length (file_at old.files k).lines) (start + count)) [ inl h ↦ absurd (place.0 h) | inr h ↦ h ];
      is = (accepted_if _ _ _ place.1).1;
    }

-- ---- one file

-- a list that has only to be in order
lost_file : (i j : Inputs) (file : File) (mark : Marked) (hits : List Hit) → IsFit file mark → FollowsFile i file mark hits → FollowsFile j file (lost mark) hits
lost_file i j file mark hits fit f = record {
  in_order = f.in_order;
  untouched = (λ es meant old new keeps inside. absurd (none_kept _ _ _ _ keeps (omega (arith, inside, fit.0))));
}

-- the list of a file that was not reported
new_file : (i : Inputs) (file : File) → FollowsFile i file (new_mark (length file.lines)) []
new_file i file = record {
  in_order = tt;
  untouched = (λ es meant old new keeps inside. absurd (none_kept 0 _ _ _ keeps inside));
}

-- the list of a file in which lines were replaced
spliced_file : (i : Inputs) (file : File) (mark new : Marked) (hits : List Hit) (come : List Text) (start count : ℕ) → start + count ≤ length file.lines → Splices start count (length come) mark new → FollowsFile i file mark hits →
    FollowsFile i (record file { lines = splice file.lines start (start + count) come }) new hits
spliced_file i file mark new hits come start count within s f = record {
  in_order = rw s.known f.in_order;
  untouched = (λ es meant old now keeps inside.
      let was = s.only old now keeps in
      let line = kept_line file.lines come start count was.0 now within was.2 inside in
      let S = Selected es i.options in
      let P = ListedParts es i.options in
      let text = get_or (splice file.lines start (start + count) come) now [] in
      let there : HitBy S P (was.0, text) (map (moved old was.0) (hits_at old hits)) =
      rw line.1 (f.untouched es meant old was.0 was.1 line.0) in
      rw (moved_again old was.0 now (hits_at old hits)) at (one_moved S P was.0 was.0 now now text (map (moved old was.0) (hits_at old hits)) (omega arith) there));
}

-- the same under inputs for which the patterns mean the same and lines have the same hits
same_file : (i j : Inputs) → ((es : List Expression) → AreMeant j.syntax j.options j.patterns es → AreMeant i.syntax i.options i.patterns es) →
    ((es : List Expression) (line : ℕ × Text) (hits : List Hit) → HitOf es i.options line hits → HitOf es j.options line hits) →
    (file : File) (mark : Marked) (hits : List Hit) → FollowsFile i file mark hits → FollowsFile j file mark hits
same_file i j back same file mark hits f = record {
  in_order = f.in_order;
  untouched = (λ es meant old new keeps inside. same es (new, get_or file.lines new []) (map (moved old new) (hits_at old hits)) (f.untouched es (back es meant) old new keeps inside));
}

-- ---- all files

-- what is left is right: marks that fit, and what an editor then has follows
abbrev IsLeft : Watched → Watched → (View → View) → Type 0
IsLeft old new change = AreFit new.inputs.files new.marks × ((view : View) → Follows old view → Follows new (change view))

module _ (old : Watched) (fit : AreFit old.inputs.files old.marks) where
  -- views under other inputs with the same files
  same_views : (inputs : Inputs) → ((es : List Expression) → AreMeant inputs.syntax inputs.options inputs.patterns es → AreMeant old.inputs.syntax old.inputs.options old.inputs.patterns es) →
      ((es : List Expression) (line : ℕ × Text) (hits : List Hit) → HitOf es old.inputs.options line hits → HitOf es inputs.options line hits) →
      (view : View) → Follows old view → AllThree (FollowsFile inputs) old.inputs.files old.marks view
  same_views inputs back same view h = three-weaker (FollowsFile old.inputs) (FollowsFile inputs) (same_file old.inputs inputs back same) _ _ _ h

  left_added : (file : File) → IsLeft old (record { inputs = with_files (old.inputs.files ++ file ∷ []) old.inputs; marks = old.marks ++ new_mark (length file.lines) ∷ []; states = old.states }) (λ view. view ++ [] ∷ [])
  left_added file =
      let inputs = with_files (old.inputs.files ++ file ∷ []) old.inputs in (
        fit_added old.inputs.files old.marks fit file,
        (λ view h. three-append (FollowsFile inputs) old.inputs.files old.marks view file (new_mark (length file.lines)) [] (same_views _ (λ es m. m) (λ es line hits x. x) _ h) (new_file inputs file)),
      )

  left_dropped : (k : ℕ) → IsLeft old (record { inputs = with_files (remove old.inputs.files k) old.inputs; marks = remove old.marks k; states = old.states }) (λ view. remove view k)
  left_dropped k =
      let inputs = with_files (remove old.inputs.files k) old.inputs in (
        fit_dropped old.inputs.files old.marks fit k,
        (λ view h. three-remove (FollowsFile inputs) old.inputs.files old.marks view k (same_views _ (λ es m. m) (λ es line hits x. x) _ h)),
      )

  left_spliced : (k start count : ℕ) (come : List Text) (mark : Marked) → k < length old.inputs.files → start + count ≤ length (file_at old.inputs.files k).lines → Splices start count (length come) (mark_at old.marks k) mark →
      IsLeft old (record { inputs = with_files (spliced old.inputs.files k start count come) old.inputs; marks = slice_set old.marks k mark; states = old.states }) (λ view. view)
  left_spliced k start count come mark inside within s =
      let inputs = with_files (spliced old.inputs.files k start count come) old.inputs in
      let file = file_at old.inputs.files k in
      let none = file_at [] k in
      let new_file = record file { lines = splice file.lines start (start + count) come } in (
        fit_spliced old.inputs.files old.marks fit k start count come inside within mark s,
        (λ view h. three-set (FollowsFile inputs) old.inputs.files old.marks view k new_file none mark (whole_mark 0) (λ hits f. spliced_file inputs file (mark_at old.marks k) mark hits come start count within s f) (same_views _ (λ es m. m) (λ es line hits x. x) _ h)),
      )

  left_lost : (inputs : Inputs) → inputs.files ≡ old.inputs.files → IsLeft old (record { inputs = inputs; marks = map lost old.marks; states = old.states }) (λ view. view)
  left_lost inputs same = (
    fit_lose old.inputs.files inputs.files old.marks (map lost old.marks) same refl fit,
    (λ view h. subst (λ files. AllThree (FollowsFile inputs) files (map lost old.marks) view) (sym same) (three-map (FollowsFile old.inputs) (FollowsFile inputs) IsFit lost (lost_file old.inputs inputs) old.inputs.files old.marks view fit h)),
  )

  -- an option by which no list changes
  left_option : (flag : Flag) (on : Bool) → IsLeft old (record { inputs = record old.inputs { options = with_option flag on old.inputs.options }; marks = if changes_hits flag then map lost old.marks else old.marks; states = old.states }) (λ view. view)
  left_option IgnoreCase on = left_lost _ refl
  left_option OnlyMatching on = left_lost _ refl
  left_option InvertMatch on = left_lost _ refl
  left_option LineRegexp on = left_lost _ refl
  left_option flag on = (fit, same_views _ (λ es m. m) (λ es line hits x. x))

  -- nothing is another
  left_same : IsLeft old old (λ view. view)
  left_same = (fit, (λ view h. h))

  left_flag : (flag : Flag) (on : Bool) (marks : List Marked) → MarksAfter (SetFlag flag on) old marks → IsLeft old (record { inputs = record old.inputs { options = with_option flag on old.inputs.options }; marks = marks; states = old.states }) (λ view. view)
  left_flag flag on marks (inl (same, e)) =
      let options : with_option flag on old.inputs.options ≡ old.inputs.options = ap (λ b. with_option flag b old.inputs.options) (sym same) ∙ with_same flag old.inputs.options in
      subst (λ (w : Watched). IsLeft old w (λ view. view)) (λ i. record { inputs = record old.inputs { options = sym options i }; marks = sym e i; states = old.states }) left_same
  left_flag flag on marks (inr (other, e)) =
      subst (λ (m : List Marked). IsLeft old (record { inputs = record old.inputs { options = with_option flag on old.inputs.options }; marks = m; states = old.states }) (λ view. view)) (sym e) (left_option flag on)

  left_syntax : (syntax : Syntax) (marks : List Marked) → MarksAfter (SetSyntax syntax) old marks → IsLeft old (record { inputs = record old.inputs { syntax = syntax }; marks = marks; states = old.states }) (λ view. view)
  left_syntax syntax marks (inl (same, e)) =
      subst (λ (w : Watched). IsLeft old w (λ view. view)) (λ i. record { inputs = record old.inputs { syntax = sym same i }; marks = sym e i; states = old.states }) left_same
  left_syntax syntax marks (inr (other, e)) =
      subst (λ (m : List Marked). IsLeft old (record { inputs = record old.inputs { syntax = syntax }; marks = m; states = old.states }) (λ view. view)) (sym e) (left_lost (record old.inputs { syntax = syntax }) refl)

  -- where inputs and marks are these
  as_these : (new these : Watched) (change : View → View) → new.inputs ≡ these.inputs → new.marks ≡ these.marks → IsLeft old these change → IsLeft old new change
  as_these new these change i m left = subst (λ (w : Watched). IsLeft old w change) (λ j. record { inputs = sym i j; marks = sym m j; states = new.states }) left

  left_accepted : (edit : Edit) (new : Watched) → Applies edit old.inputs (Ok new.inputs) → MarksAfter edit old new.marks → IsLeft old new (view_after edit)
  left_accepted (AddFile name lines) new a m =
      let file = whole_file name lines in
      as_these new (record { inputs = with_files (old.inputs.files ++ file ∷ []) old.inputs; marks = old.marks ++ new_mark (length file.lines) ∷ []; states = old.states }) (λ view. view ++ [] ∷ []) (added_file name lines old.inputs new.inputs a) m (left_added file)
  left_accepted (AddMissing name) new a m =
      let file = missing_file name in
      as_these new (record { inputs = with_files (old.inputs.files ++ file ∷ []) old.inputs; marks = old.marks ++ new_mark (length file.lines) ∷ []; states = old.states }) (λ view. view ++ [] ∷ []) (added_missing name old.inputs new.inputs a) m (left_added file)
  left_accepted (DropFile k) new a m =
      as_these new (record { inputs = with_files (remove old.inputs.files k) old.inputs; marks = remove old.marks k; states = old.states }) (λ view. remove view k) (file_dropped k old.inputs new.inputs a) m (left_dropped k)
  left_accepted (Splice k start count lines) new a (mark, s, is) =
      let put = splice_accepted k start count lines old.inputs new.inputs a in
      as_these new (record { inputs = with_files (spliced old.inputs.files k start count lines) old.inputs; marks = slice_set old.marks k mark; states = old.states }) (λ view. view) put.is is (left_spliced k start count lines mark put.inside put.within s)
  left_accepted (AddPatterns list) new a m =
      let inputs = with_patterns (old.inputs.patterns ++ list_of list) old.inputs in
      as_these new (record { inputs = inputs; marks = map lost old.marks; states = old.states }) (λ view. view) (added_patterns list old.inputs new.inputs a) m (left_lost inputs refl)
  left_accepted (DropPattern p) new a m =
      let inputs = with_patterns (remove old.inputs.patterns p) old.inputs in
      as_these new (record { inputs = inputs; marks = map lost old.marks; states = old.states }) (λ view. view) (dropped_pattern p old.inputs new.inputs a) m (left_lost inputs refl)
  left_accepted (ChangePattern p text) new a (inl (same, m)) =
      let itself = changed_to_itself old.inputs.patterns p text (accepted_where new.inputs NoSuchPattern a).0 same in
      as_these new old (λ view. view) (changed_pattern p text old.inputs new.inputs a ∙ ap (λ ps. with_patterns ps old.inputs) itself) m left_same
  left_accepted (ChangePattern p text) new a (inr (other, m)) =
      let inputs = with_patterns (slice_set old.inputs.patterns p text) old.inputs in
      as_these new (record { inputs = inputs; marks = map lost old.marks; states = old.states }) (λ view. view) (changed_pattern p text old.inputs new.inputs a) m (left_lost inputs refl)
  left_accepted (SetFlag flag on) new a m =
      let inputs = record old.inputs { options = with_option flag on old.inputs.options } in
      as_these new (record { inputs = inputs; marks = new.marks; states = old.states }) (λ view. view) (option_set flag on old.inputs new.inputs a) refl (left_flag flag on new.marks m)
  left_accepted (SetSyntax syntax) new a m =
      let inputs = record old.inputs { syntax = syntax } in
      as_these new (record { inputs = inputs; marks = new.marks; states = old.states }) (λ view. view) (syntax_set syntax old.inputs new.inputs a) refl (left_syntax syntax new.marks m)
  left_accepted (SetContext context) new a m =
      let inputs = with_context context old.inputs in
      as_these new (record { inputs = inputs; marks = old.marks; states = old.states }) (λ view. view) (context_set context old.inputs new.inputs a) m
      (fit, same_views inputs (λ es m. m) (λ es line hits x. x))

-- a refused edit leaves the inputs
pub refused_same : (T : Type 0) (edit : Edit) (old new : Inputs) (fault : EditFault) → EditGives {T = T} edit old new (Err fault) → new ≡ old
refused_same T edit old new NoSuchFile g = g.1
refused_same T edit old new FileIsMissing g = g.1
refused_same T edit old new OutOfRange g = g.1
refused_same T edit old new LineHasNewline g = g.1
refused_same T edit old new NoSuchPattern g = g.1
refused_same T edit old new (Pattern place fault) g = g.1
refused_same T edit old new TooManyPatterns g = g.1
refused_same T edit old new Memory g = g

-- what an edit leaves where the marks fit
pub edits_carry : EditsCarry
edits_carry edit (Ok done) old new fit g m = let left = left_accepted old fit edit new g m in record { fit = left.0; follows = left.1 }
edits_carry edit (Err fault) old new fit g m =
    let left = as_these old fit new old (λ view. view) (refused_same (Unit {0}) edit old.inputs new.inputs fault g) m (left_same old fit) in
    record { fit = left.0; follows = left.1 }
