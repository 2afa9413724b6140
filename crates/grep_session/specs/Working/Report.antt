-- What is written for the kept files, by what is kept.
use Rattle.std.specs.Prelude.{◌++◌, ◌==◌, All, slice_range, Result, length, ◌+◌, Bool, get_or, true}
use Rattle.std.specs.Prelude.{not, ◌≤◌, IfSome, map, ◌<◌, ◌∷◌, false, IfOk, Some, Option, ℕ, ◌≡◌}
use Rattle.std.specs.{Prelude.{if◌then◌else◌, None, ◌&&◌, List, [], IsTrue}, List.list_any}
use Rattle.re_syntax.specs.{Bytes.Text, Expression.Expression}
use Rattle.re_trees.specs.declared.span.Span.{Span}
use Rattle.grep_core.specs.declared.options.{Context.Context, Options.Options}
use Rattle.grep_core.specs.declared.status.FileEnd.{TheVariants.{Missing, Whole}, FileEnd}
use Rattle.grep_core.specs.declared.status.Status.{Status, TheVariants.Selected as selected}
use Rattle.grep_core.specs.{Output.{Form, written, lines, parts, Out, around}, Around.IsShown}
use Rattle.grep_core.specs.{Around.group_separator, Files.File, Messages.{Messages, StatusOf}}
use Rattle.grep_core.specs.Working.{Requests.selects, Progress.row_by, Groups.rows_after}
use Rattle.grep_core.specs.{Working.Searched.{is_fault, status_by}, Written.Writes}
use Rattle.line_chunks.specs.Working.Chunks.{KeptLine, line_text}
use Rattle.grep_session.specs.{declared.kept.KeptFile.KeptFile, Working.Kept.kept_lines}

-- ---- verdicts

-- no pattern matches the line
abbrev pub matches_none : KeptLine → Bool
matches_none line = length line.found.numbers == 0

-- grep selects the lines that are matched, and under `-v` the others
abbrev pub is_selected : Options → KeptLine → Bool
is_selected options line = selects options (not (matches_none line))

abbrev pub some_selected : Options → List KeptLine → Bool
some_selected options text = list_any (is_selected options) text

abbrev pub has_selected_in : Options → Option (List KeptLine) → Bool
has_selected_in options None = false
has_selected_in options (Some text) = some_selected options text

abbrev pub has_selected : Options → KeptFile → Bool
has_selected options file = has_selected_in options (kept_lines file)

abbrev pub end_with : Option (List KeptLine) → FileEnd
end_with None = Missing
end_with (Some text) = Whole

abbrev pub end_of : KeptFile → FileEnd
end_of file = end_with (kept_lines file)

-- how many of the lines are selected
abbrev pub selected_count : Options → List KeptLine → ℕ
selected_count options [] = 0
selected_count options (line ∷ more) =
    (if is_selected options line then 1 else 0) + selected_count options more

-- the first selected line from a place on, or the number of lines
pub record SelectedFrom (options : Options) (lines : List KeptLine) (place next : ℕ) : Type 0 where
  pub after : place ≤ next
  pub within : next ≤ length lines
  pub passed : (i : ℕ) (d : KeptLine) → place ≤ i → i < next →
      is_selected options (get_or lines i d) ≡ false
  pub hit : (d : KeptLine) → next < length lines → is_selected options (get_or lines next d) ≡ true

-- ---- rows

-- the span is within a line of this text
abbrev pub OnLine : Text → Span → Type 0
OnLine text span = (span.start ≤ span.end) × (span.end ≤ length text)

-- under `-o` the kept parts of a line are within it
abbrev pub PartsFit : Options → KeptLine → Type 0
PartsFit options line =
    IsTrue options.only_matching → All (OnLine (line_text line)) line.found.spans

abbrev pub FileFits : Options → KeptFile → Type 0
FileFits options file = IfSome (kept_lines file) (All (PartsFit options))

module _ (options : Options) (many : Bool) (name : Text) where
  -- the rows of the parts of a line
  abbrev pub part_rows : ℕ → Text → List Span → List Text
  part_rows number text spans =
      map (λ span. row_by options many name true number (slice_range text span.start span.end)) spans

  -- the row of a line, after a separator if there is one
  abbrev pub around_rows : Bool → Bool → ℕ → Text → List Text
  around_rows separated found number text =
      (if separated then group_separator ∷ [] else []) ++ row_by options many name found number text ∷ []

  -- what is written for a line that is shown, by the form of the output
  abbrev pub place_rows : Form → Bool → ℕ → KeptLine → List Text
  place_rows lines separated number line = row_by options many name true number (line_text line) ∷ []
  place_rows parts separated number line = part_rows number (line_text line) line.found.spans
  place_rows (around context) separated number line =
      around_rows separated (is_selected options line) number (line_text line)
  place_rows _ separated number line = []

-- how many lines are shown around selected ones, where lines or parts of them are written
abbrev pub context_as : Form → Option Context
context_as lines = Some (record { before = 0; after = 0 })
context_as parts = Some (record { before = 0; after = 0 })
context_as (around context) = Some context
context_as _ = None

-- the first shown line from a place on, or the number of lines
pub record NextShown (es : List Expression) (options : Options) (context : Context)
    (texts : List Text) (place next : ℕ) : Type 0 where
  pub after : place ≤ next
  pub within : next ≤ length texts
  pub passed : (i : ℕ) → place ≤ i → i < next → ¬ IsShown es options context texts i
  pub hit : next < length texts → IsShown es options context texts next

-- what is due was written, or a beginning of it. `some` says whether a group of lines was written
-- before, and so does the answer for what follows
pub record WritesGroups {W E : Type 0} (contents : W → Option Text) (failures : W → ℕ)
    (Due : List Text → Type 0) (shape : Form) (margin : Text) (some : Bool) (old new : W)
    (result : Result Bool E) : Type 0 where
  pub groups : List Text
  pub are_due : Due groups
  pub wrote : Writes contents failures old new (written margin (rows_after shape some groups)) result
  pub goes_on : IfOk result (λ now. (more : List Text) →
      rows_after shape some (groups ++ more) ≡ rows_after shape some groups ++ rows_after shape now more)

-- ---- the status

-- the file cannot be opened
abbrev pub is_faulty : KeptFile → Bool
is_faulty file = is_fault (end_of file)

abbrev pub any_selected : Options → List KeptFile → Bool
any_selected options files = list_any (has_selected options) files

abbrev pub any_missing : List KeptFile → Bool
any_missing files = list_any is_faulty files

-- the status where it is known whether some line is selected
abbrev pub status_given : Options → List KeptFile → Bool → Status
status_given options files some =
    if options.quiet && some then selected else status_by some (any_missing files)

abbrev pub status_by_files : Options → List KeptFile → Status
status_by_files options files = status_given options files (any_selected options files)

-- ---- what a report and messages are

module _ {W : Type 0} (contents : W → Option Text) (failures : W → ℕ) (es : List Expression)
    (options : Options) (files : List File) (margin : Text) (old new : W) where
  -- the output for the files was written, or a beginning of it, and the answer is the status
  pub record Reports {E : Type 0} (result : Result Status E) : Type 0 where
    pub out : List Text
    pub is_output : Out es options files out
    pub wrote : Writes contents failures old new (written margin out) result
    pub is_status : IfOk result (StatusOf es options files)

  -- the messages about the files were written, or a beginning of them
  pub record ReportsMessages {T E : Type 0} (result : Result T E) : Type 0 where
    pub reported : List Text
    pub are_messages : Messages es options files reported
    pub wrote : Writes contents failures old new (written margin reported) result
