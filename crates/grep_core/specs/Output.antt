-- The lines that grep writes to standard output (XCU grep, STDOUT), and under `-o` the parts (GNU
-- grep, -o).
use Rattle.std.specs.Prelude.{◌≡◌, ℕ, nat_le, Bool, ◌&&◌, if◌then◌else◌, List, [], ◌∷◌, ◌++◌}
use Rattle.std.specs.Prelude.{length, map, drop, Option, None, Some, slice_range}
use Rattle.std.specs.{List.{enumerate_from, flat_map}, Fmt.decimal}
use Rattle.re_syntax.specs.{Bytes.Text, Expression.Expression, Parts.AreParts}
use Rattle.grep_core.specs.{Around.Groups, declared.options.{Context.Context, Options.Options}}
use Rattle.grep_core.specs.{Row.{head, prefix, output_line, colon}, Choose.{Chosen, EachGives}}
use Rattle.grep_core.specs.Files.{File, HasSelected, Ending, missing, Selected}

-- the names of this many files are shown
abbrev pub shows_names : ℕ → Bool
shows_names files = nat_le 2 files

-- the file's name, where names are shown
abbrev pub shown_name : Bool → File → Option Text
shown_name many file = if many then Some file.name else None

abbrev pub shown_number : Options → ℕ → Option ℕ
shown_number options number = if options.line_number then Some number else None

-- the lines with their numbers, from 1
abbrev pub numbered : List Text → List (ℕ × Text)
numbered lines = enumerate_from 1 lines

-- what the options ask for: `-q` takes precedence over `-l`, `-l` over `-c`, these over `-o`, and
-- `-o` over lines around selected ones
pub data Form : Type 0 where
  nothing : Form
  names : Form
  counts : Form
  parts : Form
  lines : Form
  around : Context → Form

abbrev pub lines_with : Option Context → Form
lines_with None = lines
lines_with (Some context) = around context

abbrev pub form : Options → Form
form options =
    if options.quiet then nothing else
    if options.files_with_matches then names else
    if options.count then counts else
    if options.only_matching && options.invert_match then nothing else
    if options.only_matching then parts else lines_with options.context

module _ (es : List Expression) (options : Options) (many : Bool) where
  -- the selected lines of a file, with their numbers
  abbrev pub SelectedLines : File → List (ℕ × Text) → Type 0
  SelectedLines file selected =
      Chosen (λ line. Selected es options line.1) (numbered file.lines) selected

  -- what is before a line or a part of a line
  abbrev pub head_of : File → ℕ → Text
  head_of file number = head colon (shown_name many file) (shown_number options number)

  -- the count of a file's selected lines; nothing for a file that was not opened
  abbrev pub CountOf : Ending → File → List Text → Type 0
  CountOf missing file out = out ≡ []
  CountOf _ file out =
      (selected : List (ℕ × Text)) × SelectedLines file selected
      × (out ≡ (prefix colon (shown_name many file) ++ decimal (length selected)) ∷ [])

  -- each selected line after its head
  abbrev pub RowsOf : File → List Text → Type 0
  RowsOf file out =
      (selected : List (ℕ × Text)) × SelectedLines file selected ×
      (out ≡ map (λ line. head_of file line.0 ++ line.1) selected)

  -- the parts of a line, each after the line's head
  abbrev pub PartsOfLine : File → ℕ × Text → List Text → Type 0
  PartsOfLine file line out =
      (ps : List (ℕ × ℕ)) × AreParts es line.1 options.line_regexp ps ×
      (out ≡ map (λ p. head_of file line.0 ++ slice_range line.1 p.0 p.1) ps)

  -- the parts of each selected line
  abbrev pub PartRowsOf : File → List Text → Type 0
  PartRowsOf file out =
      (selected : List (ℕ × Text)) × SelectedLines file selected ×
      EachGives (PartsOfLine file) selected out

  -- the lines around the selected ones of a file with these, each group after a separator
  abbrev pub GroupsOf : Context → File → List Text → Type 0
  GroupsOf context file out =
      Groups es options context (shown_name many file) (shown_number options) file.lines out

  abbrev pub OutAs : Form → List File → List Text → Type 0
  OutAs nothing files out = out ≡ []
  OutAs names files out =
      (named : List File) × Chosen (HasSelected es options) files named ×
      (out ≡ map (λ file. file.name) named)
  OutAs counts files out = EachGives (λ file rows. CountOf file.ending file rows) files out
  OutAs parts files out = EachGives PartRowsOf files out
  OutAs lines files out = EachGives RowsOf files out
  OutAs (around context) files out =
      (groups : List Text) × EachGives (GroupsOf context) files groups × (out ≡ drop 1 groups)

-- the lines that grep writes for some of all its files
abbrev pub OutOf : List Expression → Options → List File → List File → List Text → Type 0
OutOf es options all files out = OutAs es options (shows_names (length all)) (form options) files out

-- the lines that grep writes
abbrev pub Out : List Expression → Options → List File → List Text → Type 0
Out es options files out = OutOf es options files files out

-- the bytes of some output lines
abbrev pub written : Text → List Text → Text
written margin out = flat_map (output_line margin) out
