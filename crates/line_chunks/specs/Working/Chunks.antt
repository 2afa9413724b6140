-- Lines with what was found in each, in chunks.
use Rattle.std.specs.Prelude.{◌≡◌, ℕ, suc, ◌+◌, ◌*◌, ◌==◌, Bool, ◌<◌, ◌≤◌, not, List, [], ◌∷◌, ◌++◌}
use Rattle.std.specs.Prelude.{All, length, map, take, drop, get_or, if◌then◌else◌, nat_lt, Option}
use Rattle.std.specs.Prelude.{Some, None, IfSome, ⊤}
use Rattle.{re_trees.specs.{Bytes.Text, Lines.terminated}, line_finds.specs.Working.Finds.Finds}
use Rattle.line_finds.specs.Working.Finds.{no_finds, FoundIn, finds_at, without}

-- a line, and what was found in it
pub record KeptLine : Type 0 where
  pub text : Text
  pub found : Finds

abbrev pub no_line : KeptLine
no_line = record { text = []; found = no_finds }

abbrev pub line_text : KeptLine → Text
line_text line = line.text

-- some pattern matches the line
abbrev pub is_matched : KeptLine → Bool
is_matched line = not (length line.found.numbers == 0)

-- how many of the lines some pattern matches
abbrev pub matched_count : List KeptLine → ℕ
matched_count [] = 0
matched_count (line ∷ lines) = (if is_matched line then 1 else 0) + matched_count lines

-- a line in which nothing was found
abbrev pub new_line : Text → KeptLine
new_line text = record { text = text; found = no_finds }

-- a line after pattern p is removed
abbrev pub line_without : ℕ → KeptLine → KeptLine
line_without p line =
    record {
      text = line.text;
      found = record { numbers = without p line.found.numbers; spans = line.found.spans };
    }

-- lines, the first of which has this number, with what was found in each
abbrev pub seen_from : ℕ → List Text → FoundIn → List KeptLine
seen_from k [] found = []
seen_from k (text ∷ texts) found =
    record { text = text; found = finds_at found k } ∷ seen_from (suc k) texts found

abbrev pub seen : List Text → FoundIn → List KeptLine
seen texts found = seen_from 0 texts found

-- all lines of some chunks
abbrev pub all_of : List (List KeptLine) → List KeptLine
all_of [] = []
all_of (lines ∷ chunks) = lines ++ all_of chunks

abbrev pub AreFilled : List (List KeptLine) → Type 0
AreFilled chunks = All (λ lines. 1 ≤ length lines) chunks

-- the last chunk, if there is one, has `limit` bytes or more; each of the others has
abbrev pub IsLastFull : ℕ → List (List KeptLine) → Type 0
IsLastFull limit chunks =
    (k : ℕ) → k + 1 ≡ length chunks →
    limit ≤ length (terminated (map line_text (get_or chunks k [])))

abbrev pub AreFull : ℕ → List (List KeptLine) → Type 0
AreFull limit chunks =
    (k : ℕ) → k + 1 < length chunks →
    limit ≤ length (terminated (map line_text (get_or chunks k [])))

-- in place of some chunks there are others, each of which but the last has half of `limit` bytes
pub record MakesFull (limit : ℕ) (old new : List (List KeptLine)) : Type 0 where
  pub from : ℕ
  pub to : ℕ
  pub made : List (List KeptLine)
  pub new_is : new ≡ take from old ++ (made ++ drop to old)
  pub least : ℕ
  pub half : limit ≤ 2 * least
  pub full : AreFull least made

-- ---- a line is added

-- with the line and its newline the chunk has at most so many bytes
abbrev pub has_room : ℕ → List KeptLine → Text → Bool
has_room limit lines text = nat_lt (length (terminated (map line_text lines)) + length text) limit

-- a line goes to the last chunk if this has room for it, and otherwise becomes a chunk of its own
abbrev pub with_line : ℕ → List (List KeptLine) → KeptLine → List (List KeptLine)
with_line limit [] line = (line ∷ []) ∷ []
with_line limit (lines ∷ []) line =
    if has_room limit lines line.text then (lines ++ line ∷ []) ∷ [] else lines ∷ (line ∷ []) ∷ []
with_line limit (lines ∷ next ∷ chunks) line = lines ∷ with_line limit (next ∷ chunks) line

-- ---- what was found, chunk by chunk

-- a chunk with what was found in its lines; None says that what was found before stays
abbrev pub with_column : List KeptLine → Option FoundIn → List KeptLine
with_column lines None = lines
with_column lines (Some found) = seen (map line_text lines) found

-- the chunks with what was found in each of them
abbrev pub with_columns : List (List KeptLine) → List (Option FoundIn) → List (List KeptLine)
with_columns [] found = []
with_columns (lines ∷ chunks) [] = lines ∷ chunks
with_columns (lines ∷ chunks) (one ∷ found) = with_column lines one ∷ with_columns chunks found

-- what was found is of as many lines as the chunk has
abbrev pub FitsColumn : List KeptLine → Option FoundIn → Type 0
FitsColumn lines found = IfSome found (λ one. one.size ≡ length lines)

-- so it is of each chunk
abbrev pub FitColumns : List (List KeptLine) → List (Option FoundIn) → Type 0
FitColumns [] found = ⊤
FitColumns (lines ∷ chunks) [] = ⊥
FitColumns (lines ∷ chunks) (one ∷ found) = FitsColumn lines one × FitColumns chunks found
