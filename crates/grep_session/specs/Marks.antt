-- Marks: which lines of each file edits left untouched since its changes were last reported.
use Rattle.std.specs.{Prelude.{Ok, false, true, Bool, ℕ, length, Err, []}, List.{remove, AllZip}}
use Rattle.std.specs.Prelude.{Result, get_or, ◌≡◌, List, ◌∷◌, if◌then◌else◌, map, ◌++◌, slice_set}
use Rattle.grep_core.specs.{Files.{File, Inputs}, Choose.IfHolds, Options.option_of}
use Rattle.grep_core.specs.declared.options.Flag.TheVariants.{IgnoreCase, OnlyMatching, InvertMatch}
use Rattle.grep_core.specs.declared.options.Flag.{TheVariants.LineRegexp, Flag}
use Rattle.grep_session.specs.Edits.{Edit, AddFile, AddMissing, DropFile, Splice, AddPatterns}
use Rattle.grep_session.specs.Edits.{DropPattern, ChangePattern, SetFlag, SetSyntax, SetContext}
use Rattle.grep_session.specs.{Edits.no_inputs, declared.fault.EditFault.EditFault}
use Rattle.line_marks.specs.Stretches.{Fits, new_mark, lost, Splices, whole_mark, Marked}

-- what an editor sees of a session: its inputs, a mark for each file, and how many states each of
-- its patterns may keep
pub record Watched : Type 0 where
  pub inputs : Inputs
  pub marks : List Marked
  pub states : ℕ

-- a new session, of which each pattern may keep so many states
abbrev pub new_watched : ℕ → Watched
new_watched states = record { inputs = no_inputs; marks = []; states = states }

-- the marks where all changes are reported
abbrev pub known_marks : List File → List Marked
known_marks files = map (λ file. whole_mark (length file.lines)) files

abbrev pub all_known : Watched → Watched
all_known old = record old { marks = known_marks old.inputs.files }

abbrev pub mark_at : List Marked → ℕ → Marked
mark_at marks k = get_or marks k (whole_mark 0)

-- the marks are of files that have so many lines now, and their stretches are within these
abbrev pub IsFit : File → Marked → Type 0
IsFit file mark = (mark.lines ≡ length file.lines) × Fits mark.known mark.lines mark.stretches

abbrev pub AreFit : List File → List Marked → Type 0
AreFit files marks = AllZip IsFit files marks

-- after a change of one of these options other lines may be selected, or other parts listed
abbrev pub changes_hits : Flag → Bool
changes_hits IgnoreCase = true
changes_hits OnlyMatching = true
changes_hits InvertMatch = true
changes_hits LineRegexp = true
changes_hits _ = false

-- the marks that an accepted edit leaves: a splice leaves the other lines of its file untouched;
-- where other lines may be selected, or other parts listed, no line is
abbrev pub MarksAfter : Edit → Watched → List Marked → Type 0
MarksAfter (AddFile name lines) old marks = marks ≡ old.marks ++ new_mark (length lines) ∷ []
MarksAfter (AddMissing name) old marks = marks ≡ old.marks ++ new_mark 0 ∷ []
MarksAfter (DropFile k) old marks = marks ≡ remove old.marks k
MarksAfter (Splice k start count lines) old marks =
    (mark : Marked) × Splices start count (length lines) (mark_at old.marks k) mark ×
    (marks ≡ slice_set old.marks k mark)
MarksAfter (AddPatterns list) old marks = marks ≡ map lost old.marks
MarksAfter (DropPattern p) old marks = marks ≡ map lost old.marks
MarksAfter (ChangePattern p text) old marks =
    IfHolds (text ≡ get_or old.inputs.patterns p []) (marks ≡ old.marks)
    (marks ≡ map lost old.marks)
MarksAfter (SetFlag flag on) old marks =
    IfHolds (option_of flag old.inputs.options ≡ on) (marks ≡ old.marks)
    (marks ≡ (if changes_hits flag then map lost old.marks else old.marks))
MarksAfter (SetSyntax syntax) old marks =
    IfHolds (syntax ≡ old.inputs.syntax) (marks ≡ old.marks) (marks ≡ map lost old.marks)
MarksAfter (SetContext context) old marks = marks ≡ old.marks

-- the marks that an edit leaves: a refused one touches nothing
abbrev pub MarksGiven : {T : Type 0} → Edit → Watched → List Marked → Result T EditFault → Type 0
MarksGiven edit old marks (Ok done) = MarksAfter edit old marks
MarksGiven edit old marks (Err fault) = marks ≡ old.marks
