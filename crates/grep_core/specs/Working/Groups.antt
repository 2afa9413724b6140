-- Output in which each group of lines around selected ones is after a separator, the first one too,
-- so that the output of several files is that of each of them in turn.
use Rattle.std.specs.Prelude.{Bool, List, drop, if◌then◌else◌}
use Rattle.re_syntax.specs.{Bytes.Text, Expression.Expression}
use Rattle.grep_core.specs.{declared.options.Options.Options, Choose.EachGives, Files.File}
use Rattle.grep_core.specs.Output.{Form, around, OutAs, GroupsOf}

module _ (es : List Expression) (options : Options) (many : Bool) where
  abbrev pub GroupedAs : Form → List File → List Text → Type 0
  GroupedAs (around context) files rows = EachGives (GroupsOf es options many context) files rows
  GroupedAs shape files rows = OutAs es options many shape files rows

-- what is written of such output: where no group is before it, the first separator is left out
abbrev pub rows_after : Form → Bool → List Text → List Text
rows_after (around context) some rows = if some then rows else drop 1 rows
rows_after _ some rows = rows
