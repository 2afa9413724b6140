-- How a source that is read once, from front to back, stands for a file.
use Rattle.std.specs.Prelude.{◌≡◌, ℕ, ◌-◌, ◌^◌, nat_le, Bool, true, false, if◌then◌else◌, List, []}
use Rattle.std.specs.Prelude.{◌∷◌, ◌++◌, length, take, Option, Some, IfSome}
use Rattle.std.specs.Io.KnownBytes.{Consumes}
use Rattle.re_trees.specs.{Bytes.Text, Lines.{lines_of, ended_lines_of, HasNoNewline}}
use Rattle.grep_io.specs.File.{File, Ending, whole, missing, broken}

-- a source by its name; whether it can be opened and which bytes it has, where that is known
pub record Source : Type 0 where
  pub name : Text
  pub opens : Option Bool
  pub bytes : Option Text

-- a source that is open already, as standard input is
abbrev pub open_source : Text → Option Text → Source
open_source name bytes = record { name = name; opens = Some true; bytes = bytes }

-- what a source does: it cannot be opened, its reads fail after some bytes, or it ends after some
-- bytes
pub data Reading : Type 0 where
  not_opened : Reading
  fails_after : Text → Reading
  ends_after : Text → Reading

-- a source may do so
abbrev pub IsReadingOf : Source → Reading → Type 0
IsReadingOf source not_opened = IfSome source.opens (λ b. b ≡ false)
IsReadingOf source (fails_after bytes) =
    IfSome source.opens (λ b. b ≡ true) ×
    IfSome source.bytes (λ all. (rest : Text) × (all ≡ bytes ++ rest))
IsReadingOf source (ends_after bytes) =
    IfSome source.opens (λ b. b ≡ true) × IfSome source.bytes (λ all. all ≡ bytes)

-- the greatest number of lines; where one more begins, that is a read error
abbrev pub most_lines : ℕ
most_lines = 2 ^ 64 - 1

abbrev pub up_to_limit : Text → List Text → Ending → File
up_to_limit name lines ending =
    if nat_le (length lines) most_lines then record { name = name; lines = lines; ending = ending }
    else record { name = name; lines = take most_lines lines; ending = broken }

-- the file for which the source stands: where a read failed, the unfinished line is no line
abbrev pub file_of : Text → Reading → File
file_of name not_opened = record { name = name; lines = []; ending = missing }
file_of name (fails_after bytes) = up_to_limit name (ended_lines_of bytes) broken
file_of name (ends_after bytes) = up_to_limit name (lines_of bytes) whole

-- how often the devices fail in such a reading
abbrev pub failures_of : Reading → ℕ
failures_of not_opened = 1
failures_of (fails_after bytes) = 1
failures_of (ends_after bytes) = 0

-- what the readers of the source had left when they were returned, after it did so: one reader, if
-- it was opened; and if a read failed, the bytes that it gave and those that it has left are the
-- source's
abbrev pub AreLeft : Source → Reading → List (Option Text) → Type 0
AreLeft source not_opened left = left ≡ []
AreLeft source (fails_after bytes) left =
    (rest : Option Text) × (left ≡ rest ∷ []) × Consumes source.bytes rest bytes
AreLeft source (ends_after bytes) left = (rest : Option Text) × (left ≡ rest ∷ [])

-- how many bytes a buffer holds
abbrev pub buffer_size : ℕ
buffer_size = 65536

-- but for the last ones, which a buffer holds, the bytes are the beginning of one line
abbrev pub IsOneLineAndFew : Text → Type 0
IsOneLineAndFew bytes = HasNoNewline (take (length bytes - buffer_size) bytes)

-- the reader of the source, which has `rest` left, gave these lines, and after them no more than is
-- held of one line and one buffer
pub record HasRead (source : Source) (rest : Option Text) (lines : List Text) : Type 0 where
  pub given : Text
  pub are_given : lines_of given ≡ lines
  pub held : Text
  pub few_held : IsOneLineAndFew held
  pub read : Consumes source.bytes rest (given ++ held)
