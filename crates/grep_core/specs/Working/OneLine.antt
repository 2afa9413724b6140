-- What is written for one line of a file, and for a file's first lines.
use Rattle.std.specs.Prelude.{false, IsTrue, ◌∷◌, List, ◌++◌, ◌↔◌, ◌*◌, ⊤, ◌≡◌, ◌+◌, Bool, [], ℕ}
use Rattle.re_syntax.specs.{Bytes.Text, Expression.Expression}
use Rattle.grep_core.specs.declared.status.SearchFault.{SearchFault, TheVariants.{Write, Memory}}
use Rattle.grep_core.specs.{declared.options.Options.Options, Working.Requests.name_shown}
use Rattle.grep_core.specs.Output.{Form, parts, lines, around, form, head_of, shown_number, RowsOf}
use Rattle.grep_core.specs.{Output.{PartsOfLine, PartRowsOf, GroupsOf}, Choose.IfHolds}
use Rattle.grep_core.specs.{Cost.{search_cost, part_searches}, Run.{Writer, TakesAll, TakesFront}}
use Rattle.grep_core.specs.{Files.{File, Selected}, Row.{colon, head}}
use Rattle.grep_io.specs.{Working.Handed.file_so_far, Counted.one_more}

-- no lines are shown around selected ones
abbrev pub IsPlain : Form → Type 0
IsPlain (around context) = ⊥
IsPlain _ = ⊤

-- selected lines are written with nothing before them
pub record IsBare (options : Options) (many : Bool) : Type 0 where
  pub asked : form options ≡ lines
  pub no_name : many ≡ false
  pub no_number : options.line_number ≡ false

-- the rows of selected lines, the first of which has this number
abbrev pub rows_selected : Options → Bool → Text → ℕ → List Text → List Text
rows_selected options many name number [] = []
rows_selected options many name number (line ∷ text) =
    (head colon (name_shown many name) (shown_number options number) ++ line)
    ∷ rows_selected options many name (number + 1) text

module _ (es : List Expression) (options : Options) (many : Bool) where
  -- the rows of a file's lines, each group of them after a separator where lines around are shown;
  -- there are none under `-c`, `-l` and `-q`
  abbrev pub LineRowsOf : Form → File → List Text → Type 0
  LineRowsOf lines file rows = RowsOf es options many file rows
  LineRowsOf parts file rows = PartRowsOf es options many file rows
  LineRowsOf (around context) file rows = GroupsOf es options many context file rows
  LineRowsOf _ file rows = rows ≡ []

  abbrev pub RowsOfSelected : Form → Text → ℕ → Text → List Text → Type 0
  RowsOfSelected lines name number line rows =
      rows ≡ (head_of es options many (file_so_far name []) number ++ line) ∷ []
  RowsOfSelected parts name number line rows =
      PartsOfLine es options many (file_so_far name []) (number, line) rows
  RowsOfSelected _ name number line rows = rows ≡ []

  abbrev pub RowsOfLine : Text → ℕ → Text → List Text → Type 0
  RowsOfLine name number line rows =
      IfHolds (Selected es options line) (RowsOfSelected (form options) name number line rows)
      (rows ≡ [])

  module _ (name : Text) (number : ℕ) (line : Text) (old new : Writer) where
    -- the rows of a selected line were written
    pub record WritesSelected : Type 0 where
      pub rows : List Text
      pub are_rows : RowsOfSelected (form options) name number line rows
      pub wrote : TakesAll old new rows

    -- a beginning of the rows of a selected line was written, and a write failed
    pub record BreaksSelected : Type 0 where
      pub rows : List Text
      pub are_rows : RowsOfSelected (form options) name number line rows
      pub wrote : TakesFront old new rows
      pub counted : new.failures ≡ one_more old.failures

    -- the rows of a line were written, and `found` says whether it is selected
    pub record TakesLine (found : Bool) : Type 0 where
      pub rows : List Text
      pub are_rows : RowsOfLine name number line rows
      pub wrote : TakesAll old new rows
      pub reported : IsTrue found ↔ Selected es options line

    -- a beginning of the rows of a line was written, and a write failed
    pub record BreaksLine : Type 0 where
      pub rows : List Text
      pub are_rows : RowsOfLine name number line rows
      pub wrote : TakesFront old new rows
      pub counted : new.failures ≡ one_more old.failures

    -- why a line is not done: a write failed, or there was no room for its parts, and nothing was
    -- written
    abbrev pub StopsLine : SearchFault → Type 0
    StopsLine Write = BreaksLine
    StopsLine (Memory n) = (n + 1 ≡ number) × (new ≡ old)

abbrev pub parts_cost : Options → ℕ → Text → ℕ
parts_cost options matchers line = part_searches (form options) * search_cost matchers line
