-- Laws of the definitions.
use Rattle.std.specs.Prelude.{[], ◌⊎◌, get_or, ◌+◌, Result, IfOk, ◌≤◌, ⊤, ◌≡◌, false, ◌∷◌, Err, ℕ}
use Rattle.std.specs.Prelude.{MatchResult, ◌≢◌, Ok, length, Bool, ◌-◌, ◌<◌, List}
use Rattle.{re_syntax.specs.{Bytes.Text, Expression.Expression}, grep_core.specs.Run.file_at}
use Rattle.grep_core.specs.{Choose.IfHolds, Files.Inputs, Options.option_of}
use Rattle.grep_session.specs.Edits.{Splice, EditGives, ChangePattern, AddFile, SetFlag, SetSyntax}
use Rattle.grep_session.specs.Edits.{Edit, AddMissing, SetContext, Applies, DropFile}
use Rattle.grep_session.specs.{Headline.{Attempt, accepted}, declared.fault.EditFault.EditFault}
use Rattle.grep_session.specs.Marks.{Watched, all_known, changes_hits, AreFit, MarksAfter}
use Rattle.{grep_session.specs.Marks.MarksGiven, line_marks.specs.Stretches.{most_stretches, Moves}}
use Rattle.grep_live.specs.{Follows.{Follows, view_after}, Rows.{change_rows, changes_rows}}
use Rattle.grep_live.specs.{Hits.{AllThree, Hit, View}, Changes.{AreWithin, ChangesFile, Change}}

abbrev pub view_given : {T : Type 0} → Edit → Result T EditFault → View → View
view_given edit (Ok done) view = view_after edit view
view_given edit (Err fault) view = view

-- the marks fit, and a view that followed before follows then
pub record Carries {T : Type 0} (edit : Edit) (old new : Watched)
    (result : Result T EditFault) : Type 0 where
  pub fit : AreFit new.inputs.files new.marks
  pub follows : (view : View) → Follows old view → Follows new (view_given edit result view)

-- where the marks fitted before, so they do after each edit, and a view follows as before
abbrev pub EditsCarry : Type 0
EditsCarry =
    (edit : Edit) (answer : Result (Unit {0}) EditFault) (old new : Watched) →
    AreFit old.inputs.files old.marks → EditGives edit old.inputs new.inputs answer →
    MarksGiven edit old new.marks answer → Carries edit old new answer

-- of files whose changes were all reported no row is written
abbrev pub NothingTwice : Type 0
NothingTwice =
    (old : Watched) (es : List Expression) (changes : List (List Change)) →
    AllThree (ChangesFile es old.inputs.options) old.inputs.files (all_known old).marks changes →
    (texts : Bool) → changes_rows texts 0 changes ≡ []

-- the changes of file k
abbrev pub changes_at : List (List Change) → ℕ → List Change
changes_at changes k = get_or changes k []

-- rows are written of file k alone: `count` lines from line `start` on were replaced by these, and
-- each of these has at most one hit
pub record ReportsSplice (k start count : ℕ) (lines : List Text)
    (changes : List (List Change)) : Type 0 where
  pub come : List Hit
  pub rows : (texts : Bool) → changes_rows texts 0 changes ≡ change_rows texts k (record {
    front = start;
    removed = count;
    added = length lines;
    come = come;
  })
  pub few_hits : length come ≤ length lines

-- after one accepted splice, where all changes before it were reported, this splice is reported
abbrev pub OneSplice : Type 0
OneSplice =
    (old new : Watched) (k start count : ℕ) (lines : List Text) (es : List Expression)
    (changes : List (List Change)) → Applies (Splice k start count lines) old.inputs (Ok new.inputs)
    → MarksAfter (Splice k start count lines) (all_known old) new.marks →
    AllThree (ChangesFile es new.inputs.options) new.inputs.files new.marks changes →
    ReportsSplice k start count lines changes

-- an edit leaves all files, which of their lines are selected and which parts are listed
abbrev pub LeavesAll : Edit → Inputs → Type 0
LeavesAll (ChangePattern p text) old = text ≡ get_or old.patterns p []
LeavesAll (SetFlag flag on) old = (changes_hits flag ≡ false) ⊎ (option_of flag old.options ≡ on)
LeavesAll (SetSyntax syntax) old = syntax ≡ old.syntax
LeavesAll (SetContext context) old = ⊤
LeavesAll _ old = ⊥

-- an edit leaves the number of file k, its first `front` lines, its last `back` lines, and which
-- hits these lines have
abbrev pub LeavesEnds : ℕ → ℕ → ℕ → Edit → Inputs → Type 0
LeavesEnds k front back (AddFile name lines) old = ⊤
LeavesEnds k front back (AddMissing name) old = ⊤
LeavesEnds k front back (DropFile other) old = k < other
LeavesEnds k front back (Splice other start count lines) old =
    (other ≢ k) ⊎ ((front ≤ start) × (start + count + back ≤ length (file_at old.files k).lines))
LeavesEnds k front back edit old = LeavesAll edit old

-- edits that were tried, one after the other, lead from an old to a new state, and each that was
-- accepted leaves these ends of file k
abbrev pub EachLeavesEnds : ℕ → ℕ → ℕ → List Attempt → Watched → Watched → Type 0
EachLeavesEnds k front back [] old new = new ≡ old
EachLeavesEnds k front back (attempt ∷ more) old new =
    (between : Watched) × EditGives attempt.edit old.inputs between.inputs attempt.answer ×
    MarksGiven attempt.edit old between.marks attempt.answer ×
    IfOk attempt.answer (λ _. LeavesEnds k front back attempt.edit old.inputs) ×
    EachLeavesEnds k front back more between new

-- changes, made one after the other in a file of `lines` lines, replace none of its first `front`
-- and none of its last `back` lines, and no hit of them is among these; `now` lines are left
abbrev pub AreBetween : ℕ → ℕ → ℕ → ℕ → List Change → Type 0
AreBetween front back lines now [] = now ≡ lines
AreBetween front back lines now (change ∷ more) =
    let after = lines - change.removed + change.added in
    (front ≤ change.front) × (change.front + change.removed + back ≤ lines) ×
    AreWithin front (after - back) change.come × AreBetween front back after now more

-- after such edits, where all changes before them were reported, the changes of file k replace none
-- of its first `front` and last `back` lines, and no hit is reported among these
abbrev pub OnlyTouched : Type 0
OnlyTouched =
    (tried : List Attempt) (old new : Watched) (k front back : ℕ) (es : List Expression)
    (changes : List (List Change)) → k < length old.inputs.files →
    EachLeavesEnds k front back tried (all_known old) new →
    AllThree (ChangesFile es new.inputs.options) new.inputs.files new.marks changes →
    AreBetween front back (length (file_at old.inputs.files k).lines)
    (length (file_at new.inputs.files k).lines) (changes_at changes k)

-- an edit leaves line `line` of file k and whether it is selected and which parts are listed; it is
-- line `now` of file `j` then
abbrev pub Stays : ℕ → ℕ → Edit → Inputs → ℕ → ℕ → Type 0
Stays k line (AddFile name lines) old j now = (j ≡ k) × (now ≡ line)
Stays k line (AddMissing name) old j now = (j ≡ k) × (now ≡ line)
Stays k line (DropFile other) old j now =
    (((k < other) × (j ≡ k)) ⊎ ((other < k) × (j + 1 ≡ k))) × (now ≡ line)
Stays k line (Splice other start count lines) old j now =
    (j ≡ k) × IfHolds (other ≡ k) (Moves start count (length lines) line now) (now ≡ line)
Stays k line edit old j now = LeavesAll edit old × (j ≡ k) × (now ≡ line)

-- edits that were tried, one after the other, lead from an old to a new state, and each that was
-- accepted leaves this line
abbrev pub EachStays : ℕ → ℕ → List Attempt → Watched → Watched → ℕ → ℕ → Type 0
EachStays k line [] old new j now = (new ≡ old) × (j ≡ k) × (now ≡ line)
EachStays k line (attempt ∷ more) old new j now =
    (between : Watched) × (file : ℕ) × (place : ℕ) ×
    EditGives attempt.edit old.inputs between.inputs attempt.answer ×
    MarksGiven attempt.edit old between.marks attempt.answer ×
    MatchResult attempt.answer (λ _. Stays k line attempt.edit old.inputs file place)
    (λ _. (file ≡ k) × (place ≡ line)) × EachStays file place more between new j now

-- how many of the edits are splices
abbrev pub splices : List Edit → ℕ
splices [] = 0
splices (Splice k start count lines ∷ more) = 1 + splices more
splices (_ ∷ more) = splices more

-- changes, made one after the other, leave line `old` of a file, and it becomes line `new`
abbrev pub LeaveLine : List Change → ℕ → ℕ → Type 0
LeaveLine [] old new = new ≡ old
LeaveLine (change ∷ more) old new =
    (then : ℕ) × Moves change.front change.removed change.added old then × LeaveLine more then new

-- after such edits, with no more accepted splices than a mark has stretches, where all changes
-- before them were reported, the changes that are reported leave this line
abbrev pub UntouchedLines : Type 0
UntouchedLines =
    (tried : List Attempt) (old new : Watched) (k line j now : ℕ) (es : List Expression)
    (changes : List (List Change)) → line < length (file_at old.inputs.files k).lines →
    splices (accepted tried) ≤ most_stretches → EachStays k line tried (all_known old) new j now →
    AllThree (ChangesFile es new.inputs.options) new.inputs.files new.marks changes →
    LeaveLine (changes_at changes j) line now
