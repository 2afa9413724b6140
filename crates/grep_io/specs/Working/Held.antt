-- The bytes that are held between two calls, and the line that was handed out.
use Rattle.std.specs.Prelude.{◌≡◌, ℕ, ◌-◌, ◌<◌, ◌≤◌, Bool, true, false, [], length, get_or}
use Rattle.std.specs.Prelude.{slice_range, ⊤}
use Rattle.re_trees.specs.{Bytes.Text, Lines.{newline, HasNoNewline}}
use Rattle.grep_io.specs.declared.input.window.LastLine.TheVariants.{Nothing, Short, Long}
use Rattle.grep_io.specs.{declared.input.window.LastLine.LastLine, Reading.buffer_size}

-- ahead: taken from the reader and not handed out. line: handed out last
pub record Held : Type 0 where
  pub ahead : Text
  pub line : Text

-- whether a line ends in the bytes
abbrev pub HasWholeLine : Text → Bool → Type 0
HasWholeLine bytes true = HasNoNewline bytes → ⊥
HasWholeLine bytes false = HasNoNewline bytes

-- what is kept of a line that continues: nothing where the spilled bytes are the line handed out
abbrev pub waiting : LastLine → Text → Text
waiting Nothing spill = spill
waiting (Short from to) spill = spill
waiting Long spill = []

-- the line handed out last
abbrev pub last_line : LastLine → Text → Text → Text
last_line Nothing spill buffer = []
last_line (Short from to) spill buffer = slice_range buffer from to
last_line Long spill buffer = spill

-- the places of a line in the buffer are in order and within it
abbrev pub LastLineFits : LastLine → Type 0
LastLineFits Nothing = ⊤
LastLineFits (Short from to) = (from ≤ to) × (to ≤ buffer_size)
LastLineFits Long = ⊤

-- the buffer is full, its places are in order, what waits is the beginning of one line, and what is
-- ahead in the buffer has its last newline before the place `last`, if any
pub record IsSound (buffer : Text) (start last end : ℕ) (shown : LastLine)
    (spill : Text) : Type 0 where
  pub full : length buffer ≡ buffer_size
  pub ordered : start ≤ last
  pub before_end : last ≤ end
  pub within : end ≤ buffer_size
  pub ended : start < last → get_or buffer (last - 1) 0 ≡ newline
  pub cut_off : HasNoNewline (slice_range buffer last end)
  pub shown_fits : LastLineFits shown
  pub unfinished : HasNoNewline (waiting shown spill)
