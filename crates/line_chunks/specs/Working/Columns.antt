-- What is put in place of what was found in a chunk: the next of a list.
use Rattle.std.specs.Prelude.{List, [], ◌∷◌, Option, ⊤}
use Rattle.{line_finds.specs.Working.Finds.FoundIn, line_chunks.specs.Working.Chunks.KeptLine}
use Rattle.line_chunks.specs.Working.Chunks.{with_column, FitsColumn}

-- the chunk with the first of these
abbrev pub next_column : List KeptLine → List (Option FoundIn) → List KeptLine
next_column lines [] = lines
next_column lines (one ∷ found) = with_column lines one

-- the first of these is of as many lines as the chunk has
abbrev pub FitsNext : List KeptLine → List (Option FoundIn) → Type 0
FitsNext lines [] = ⊤
FitsNext lines (one ∷ found) = FitsColumn lines one
