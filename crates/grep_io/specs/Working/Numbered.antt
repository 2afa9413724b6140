-- What a reader of numbered lines has handed out, and what a call for the next line does.
use Rattle.std.specs.Prelude.{◌≡◌, ℕ, ◌+◌, ◌≤◌, Bool, true, false, List, [], ◌∷◌, ◌++◌, length}
use Rattle.std.specs.Prelude.{Option, Result, Ok, Err}
use Rattle.{re_trees.specs.{Bytes.Text, Lines.lines_of}, re_runs.specs.Working.Blocks.IsBlock}
use Rattle.grep_io.specs.declared.input.lines.ReadFault.{TheVariants.{Device, Memory}, ReadFault}
use Rattle.grep_io.specs.{File.{Ending, whole, broken}, Reading.{most_lines, open_source, HasRead}}
use Rattle.grep_io.specs.Working.{Handed.{HandsLines, StandsFor}, LineReader.LineReader}

pub record Numbered (R : Type 0) : Type 0 where
  pub lines : LineReader R
  -- how many were handed out
  pub number : ℕ

-- the block is ahead and is `count` whole lines, and all of them can be numbered
pub record AreAhead {R : Type 0} (now : Numbered R) (block : Text) (count : ℕ) : Type 0 where
  pub rest : Text
  pub ahead : now.lines.ahead ≡ block ++ rest
  pub whole : IsBlock block
  pub counted : count ≡ length (lines_of block)
  pub few : now.number + count ≤ most_lines

module _ {R : Type 0} (remaining : R → Option Text) (failures : R → ℕ) where
  -- these lines of a reader were handed out, which was not read before
  pub record HasHanded (reader : R) (now : Numbered R) (handed : List Text) : Type 0 where
    pub hands : HandsLines remaining failures reader now.lines handed
    pub counted : length handed ≡ now.number
    pub few : length handed ≤ most_lines

  -- the reader stands for a file of these lines, which ends so
  abbrev pub StandsAs : R → Numbered R → List Text → Ending → Type 0
  StandsAs reader now handed ending =
      (name : Text) →
      StandsFor name (remaining reader) (remaining now.lines.reader) (failures reader)
      (failures now.lines.reader) handed ending

  -- after these lines a line was handed out; or they are all; or a read failed, or there is one
  -- more than can be numbered; or an allocation failed, and nothing is lost
  abbrev pub NextIs : R → List Text → Numbered R → Result Bool ReadFault → Type 0
  NextIs reader handed now (Ok true) = HasHanded reader now (handed ++ now.lines.line ∷ [])
  NextIs reader handed now (Ok false) = StandsAs reader now handed whole
  NextIs reader handed now (Err Device) = StandsAs reader now handed broken
  NextIs reader handed now (Err Memory) = HasHanded reader now handed

  abbrev pub HandsNext : Numbered R → Numbered R → Result Bool ReadFault → Type 0
  HandsNext old new result =
      (reader : R) (handed : List Text) → HasHanded reader old handed →
      NextIs reader handed new result

  -- the reader gave the lines before the one that was handed out, and after them no more than is
  -- held of one line and one buffer
  abbrev pub HasReadBefore : Numbered R → Numbered R → Type 0
  HasReadBefore old new =
      (reader : R) (handed : List Text) → HasHanded reader old handed → (name : Text) →
      HasRead (open_source name (remaining reader)) (remaining new.lines.reader) handed

  -- these lines were passed, as if they had been handed out
  abbrev pub PassesNext : Numbered R → Numbered R → List Text → Type 0
  PassesNext old new lines =
      (reader : R) (handed : List Text) → HasHanded reader old handed →
      HasHanded reader new (handed ++ lines)
