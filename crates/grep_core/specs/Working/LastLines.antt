-- The last lines of a file that are not shown; no more are held than may be shown.
use Rattle.std.specs.Prelude.{ℕ, List, ◌++◌}
use Rattle.{re_syntax.specs.Bytes.Text, grep_core.specs.Working.Progress.last_of}

-- the lines, the oldest first
pub record LastLines : Type 0 where
  pub limit : ℕ
  pub lines : List Text

-- with more lines after them
abbrev pub with_lines : LastLines → List Text → LastLines
with_lines held more =
    record { limit = held.limit; lines = last_of held.limit (held.lines ++ more) }
