-- What a session keeps of its patterns and files, and the inputs that it represents.
use Rattle.std.specs.Prelude.{◌≡◌, ℕ, ◌+◌, ◌-◌, ◌<◌, ◌≤◌, Bool, List, [], ◌++◌, length, map, get_or}
use Rattle.std.specs.Prelude.{Option, None, Some, IfSome, MatchBool, All, ⊤, nat_eq, if◌then◌else◌}
use Rattle.std.specs.{Bool.Decides, List.{flat_map, list_any}, Option.{option_map, unwrap_or}}
use Rattle.re_syntax.specs.{Bytes.Text, Expression.Expression, Holds.Matches, Parts.AreParts}
use Rattle.re_trees.specs.declared.span.Span.{Span}
use Rattle.grep_core.specs.{declared.options.Options.Options, Files.{File, whole, missing}}
use Rattle.line_chunks.specs.Working.Chunks.{KeptLine, FitsColumn, all_of, line_text, with_column}
use Rattle.line_chunks.specs.Working.Finds.{FoundIn, no_finds}
use Rattle.grep_session.specs.declared.kept.KeptFile.{KeptFile}

-- ---- what is found in a line

-- whether this number is among them
abbrev pub has_number : ℕ → List ℕ → Bool
has_number p numbers = list_any (λ n. nat_eq n p) numbers

-- the numbers are those, counted from `first` on, of the expressions that match the line
abbrev pub AreMatching : Text → Bool → ℕ → List Expression → List ℕ → Type 0
AreMatching line entire first es numbers =
    (n : ℕ) (d : Expression) → Decides (has_number n numbers)
    ((first ≤ n) × (n < first + length es) × Matches (get_or es (n - first) d) line entire)

-- these numbers were added to others
pub record AddsMatching (line : Text) (entire : Bool) (first : ℕ) (es : List Expression)
    (old new : List ℕ) : Type 0 where
  pub found : List ℕ
  pub are_found : AreMatching line entire first es found
  pub added : new ≡ old ++ found

-- nothing is found in the line
abbrev pub IsNew : KeptLine → Type 0
IsNew line = line.found ≡ no_finds

-- a span as a pair of places
abbrev pub span_places : Span → ℕ × ℕ
span_places span = (span.start, span.end)

-- the lines of a file that can be opened
abbrev pub kept_lines : KeptFile → Option (List KeptLine)
kept_lines file = option_map all_of file.lines

module _ (es : List Expression) (options : Options) where
  -- under `-o` the parts of a line are kept
  abbrev pub ArePartsKept : Text → List Span → Type 0
  ArePartsKept line spans =
      MatchBool options.only_matching (AreParts es line options.line_regexp (map span_places spans))
      ⊤

  -- what is kept of a line is what these expressions find in it
  pub record IsKept (line : KeptLine) : Type 0 where
    pub matching : AreMatching line.text options.line_regexp 0 es line.found.numbers
    pub parts : ArePartsKept line.text line.found.spans

  abbrev pub IsFileKept : KeptFile → Type 0
  IsFileKept file = IfSome (kept_lines file) (All IsKept)

-- under `-o` the parts that are kept of a line are listed, and otherwise none
abbrev pub listed_spans : Options → KeptLine → List Span
listed_spans options line = if options.only_matching then line.found.spans else []

-- ---- the inputs that it represents

abbrev pub file_with : Text → Option (List KeptLine) → File
file_with name None = record { name = name; lines = []; ending = missing }
file_with name (Some lines) = record { name = name; lines = map line_text lines; ending = whole }

abbrev pub kept_file : KeptFile → File
kept_file file = file_with file.name.items (kept_lines file)

-- ---- chunks

-- what was found in a chunk is of as many lines, and once it replaces what is kept of these, that is
-- what the expressions find in them
abbrev pub IsColumn : List Expression → Options → List KeptLine → Option FoundIn → Type 0
IsColumn es options lines found =
    FitsColumn lines found × All (IsKept es options) (with_column lines found)

-- the chunks of a file, and of all files
abbrev pub chunks_of : KeptFile → List (List KeptLine)
chunks_of file = unwrap_or file.lines []

abbrev pub chunks_of_files : List KeptFile → List (List KeptLine)
chunks_of_files files = flat_map chunks_of files

abbrev pub lines_of_files : List File → List Text
lines_of_files files = flat_map (λ file. file.lines) files
