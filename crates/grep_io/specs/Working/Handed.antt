-- A pass over the lines of a reader, from its first line on: which lines were handed out, and what
-- was written for them.
use Rattle.std.specs.Prelude.{◌≡◌, ℕ, ◌⊎◌, List, [], ◌∷◌, ◌++◌, All, Option}
use Rattle.std.specs.Io.KnownBytes.{Consumes, IsAtEnd}
use Rattle.re_trees.specs.{Bytes.Text, Lines.{lines_of, terminated, HasNoNewline}}
use Rattle.grep_io.specs.{Working.LineReader.{LineReader, to_come}, Counted.count_more}
use Rattle.grep_io.specs.Reading.{file_of, AreLeft, IsReadingOf, Reading, failures_of, open_source}
use Rattle.grep_io.specs.declared.input.lines.Stage.{TheVariants.{Ended, Failed, Open}, Stage}
use Rattle.grep_io.specs.File.{File, Ending, whole, broken}

-- each line handed out ended in a newline; only the last line of an input may lack it
abbrev pub AreHanded : Stage → Text → List Text → Type 0
AreHanded Open given handed = (given ≡ terminated handed) × All HasNoNewline handed
AreHanded Ended given handed = lines_of given ≡ handed
AreHanded Failed given handed = ⊥

module _ {R : Type 0} (remaining : R → Option Text) (failures : R → ℕ) where
  -- the reader gave some bytes, whose lines were handed out, and no read failed
  pub record HandsLines (reader : R) (now : LineReader R) (handed : List Text) : Type 0 where
    pub given : Text
    pub gave : Consumes (remaining reader) (to_come remaining failures now) given
    pub are_handed : AreHanded now.stage given handed
    pub all_given : now.stage ≡ Ended → IsAtEnd (to_come remaining failures now)
    pub none_failed : failures now.reader ≡ failures reader

-- a source that is open, failed this often while it was read, and has this left, stands for a file
-- of these lines
pub record StandsFor (name : Text) (known rest : Option Text) (failed_before failed : ℕ)
    (lines : List Text) (ending : Ending) : Type 0 where
  pub reading : Reading
  pub is_reading : IsReadingOf (open_source name known) reading
  pub is_left : AreLeft (open_source name known) reading (rest ∷ [])
  pub file : file_of name reading ≡ record { name = name; lines = lines; ending = ending }
  pub counted : failed ≡ count_more failed_before (failures_of reading)

-- a source that is open, read as far as some lines, may stand for a file that begins with these
-- lines
pub record BeginsWith (name : Text) (known : Option Text) (lines : List Text) : Type 0 where
  pub reading : Reading
  pub is_reading : IsReadingOf (open_source name known) reading
  pub none_fails : failures_of reading ≡ 0
  pub is_left : (rest : Option Text) → AreLeft (open_source name known) reading (rest ∷ [])
  pub more : List Text
  pub named : (file_of name reading).name ≡ name
  pub has_lines : (file_of name reading).lines ≡ lines ++ more
  pub ends : ((file_of name reading).ending ≡ whole) ⊎ ((file_of name reading).ending ≡ broken)

abbrev pub file_so_far : Text → List Text → File
file_so_far name lines = record { name = name; lines = lines; ending = whole }
