-- The edits of a session, and the inputs that each leaves.
use Rattle.std.specs.Prelude.{◌≡◌, ◌≢◌, ℕ, ◌+◌, ◌<◌, ◌≤◌, Bool, List, [], ◌∷◌, ◌++◌, length, Option}
use Rattle.std.specs.{Prelude.{Result, Ok, Err, All, slice_set}, List.{remove, splice}}
use Rattle.re_syntax.specs.{Bytes.Text, declared.syntax.Syntax.{Syntax, TheVariants.Basic}}
use Rattle.re_syntax.specs.{declared.fault.PatternFault.PatternFault, Profile.most_patterns}
use Rattle.{re_syntax.specs.Lines.{list_of, HasNoNewline}, re_search.specs.Reading.IsReadable}
use Rattle.grep_core.specs.{Files.{File, missing, Inputs, whole}, Options.{with_option, no_options}}
use Rattle.grep_core.specs.{Choose.IfHolds, Run.file_at, Matchers.IsFirstRefused}
use Rattle.grep_core.specs.declared.options.{Flag.Flag, Context.Context}
use Rattle.grep_session.specs.declared.fault.EditFault.{EditFault, TheVariants.NoSuchPattern}
use Rattle.grep_session.specs.declared.fault.EditFault.TheVariants.{TooManyPatterns, NoSuchFile}
use Rattle.grep_session.specs.declared.fault.EditFault.TheVariants.{LineHasNewline, OutOfRange}
use Rattle.grep_session.specs.declared.fault.EditFault.TheVariants.{Pattern, FileIsMissing, Memory}

-- the calls that change a session; files, lines and patterns are numbered from 0
pub data Edit : Type 0 where
  -- adds a file of this name and these lines at the end; adds a file that cannot be opened
  AddFile : Text → List Text → Edit
  AddMissing : Text → Edit
  DropFile : ℕ → Edit
  -- replaces lines of a file: its number, the first line, the number of lines, and the new lines
  Splice : ℕ → ℕ → ℕ → List Text → Edit
  -- adds the patterns of this list at the end; removes the pattern of this number
  AddPatterns : Text → Edit
  DropPattern : ℕ → Edit
  -- puts this text in the place of the pattern of this number
  ChangePattern : ℕ → Text → Edit
  SetFlag : Flag → Bool → Edit
  SetSyntax : Syntax → Edit
  -- sets how many lines are shown around selected ones, or that none are
  SetContext : Option Context → Edit

-- the inputs of a new session: no file, no pattern, basic syntax, and no option
abbrev pub no_inputs : Inputs
no_inputs = record { syntax = Basic; options = no_options; patterns = []; files = [] }

abbrev pub whole_file : Text → List Text → File
whole_file name lines = record { name = name; lines = lines; ending = whole }

abbrev pub missing_file : Text → File
missing_file name = record { name = name; lines = []; ending = missing }

-- the inputs with these files; with these patterns
abbrev pub with_files : List File → Inputs → Inputs
with_files files old = record old { files = files }

abbrev pub with_patterns : List Text → Inputs → Inputs
with_patterns patterns old = record old { patterns = patterns }

abbrev pub with_context : Option Context → Inputs → Inputs
with_context context old = record old { options = record old.options { context = context } }

-- file `k` can be opened, and has `count` lines from line `start` on
pub record HasPlace (files : List File) (k start count : ℕ) : Type 0 where
  pub in_files : k < length files
  pub opens : (file_at files k).ending ≢ missing
  pub in_file : start + count ≤ length (file_at files k).lines

-- the files after `count` lines of file `k` from line `start` on were replaced by others
abbrev pub spliced : List File → ℕ → ℕ → ℕ → List Text → List File
spliced files k start count lines =
    slice_set files k
    (record (file_at files k)
    { lines = splice (file_at files k).lines start (start + count) lines })

-- the new inputs if all texts are readable; otherwise the fault of the first that is not
abbrev pub Reads : Syntax → Bool → List Text → Inputs → Result Inputs EditFault → Type 0
Reads syntax fold texts new outcome =
    IfHolds (All (IsReadable syntax fold) texts) (outcome ≡ Ok new)
    ((place : ℕ) × (fault : PatternFault) × IsFirstRefused syntax fold texts place fault ×
    (outcome ≡ Err (Pattern place fault)))

-- the outcome of an edit of the inputs; if it is refused for several reasons, the first of them in
-- this order is reported
abbrev pub Applies : Edit → Inputs → Result Inputs EditFault → Type 0
Applies (AddFile name lines) old outcome =
    IfHolds (All HasNoNewline lines)
    (outcome ≡ Ok (with_files (old.files ++ whole_file name lines ∷ []) old))
    (outcome ≡ Err LineHasNewline)
Applies (AddMissing name) old outcome =
    outcome ≡ Ok (with_files (old.files ++ missing_file name ∷ []) old)
Applies (DropFile k) old outcome =
    IfHolds (k < length old.files) (outcome ≡ Ok (with_files (remove old.files k) old))
    (outcome ≡ Err NoSuchFile)
Applies (Splice k start count lines) old outcome =
    IfHolds (length old.files ≤ k) (outcome ≡ Err NoSuchFile)
    (IfHolds ((file_at old.files k).ending ≡ missing) (outcome ≡ Err FileIsMissing)
    (IfHolds (length (file_at old.files k).lines < start + count) (outcome ≡ Err OutOfRange)
    (IfHolds (All HasNoNewline lines)
    (outcome ≡ Ok (with_files (spliced old.files k start count lines) old))
    (outcome ≡ Err LineHasNewline))))
Applies (AddPatterns list) old outcome =
    IfHolds (most_patterns < length old.patterns + length (list_of list))
    (outcome ≡ Err TooManyPatterns)
    (Reads old.syntax old.options.ignore_case (list_of list)
    (with_patterns (old.patterns ++ list_of list) old) outcome)
Applies (DropPattern p) old outcome =
    IfHolds (p < length old.patterns) (outcome ≡ Ok (with_patterns (remove old.patterns p) old))
    (outcome ≡ Err NoSuchPattern)
Applies (ChangePattern p text) old outcome =
    IfHolds (p < length old.patterns)
    (Reads old.syntax old.options.ignore_case (text ∷ [])
    (with_patterns (slice_set old.patterns p text) old) outcome)
    (outcome ≡ Err NoSuchPattern)
Applies (SetFlag flag on) old outcome =
    Reads old.syntax (with_option flag on old.options).ignore_case old.patterns
    (record old { options = with_option flag on old.options }) outcome
Applies (SetSyntax syntax) old outcome =
    Reads syntax old.options.ignore_case old.patterns (record old { syntax = syntax }) outcome
Applies (SetContext context) old outcome = outcome ≡ Ok (with_context context old)

-- what an edit answers and leaves: the new inputs, or the old ones and why it was refused; out of
-- memory may be reported in place of any other answer
abbrev pub EditGives : {T : Type 0} → Edit → Inputs → Inputs → Result T EditFault → Type 0
EditGives edit old new (Ok done) = Applies edit old (Ok new)
EditGives edit old new (Err Memory) = new ≡ old
EditGives edit old new (Err fault) = Applies edit old (Err fault) × (new ≡ old)
