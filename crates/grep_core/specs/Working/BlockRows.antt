-- What is written for several lines of a file, one after the other.
use Rattle.std.specs.Prelude.{◌≡◌, ℕ, ◌+◌, ◌≤◌, Bool, IsTrue, ◌↔◌, List, [], ◌∷◌, ◌++◌, All, length}
use Rattle.std.specs.Prelude.{if◌then◌else◌}
use Rattle.re_syntax.specs.{Lines.{HasNoNewline, terminated}, Expression.Expression, Bytes.Text}
use Rattle.{re_search.specs.Meters.{Steps, AddsAtMost}, grep_core.specs.Cost.lines_cost}
use Rattle.grep_core.specs.declared.search.searched_block.SearchedLines.{SearchedLines}
use Rattle.grep_core.specs.declared.status.SearchFault.{TheVariants.{Write, Memory}, SearchFault}
use Rattle.grep_core.specs.{declared.options.Options.Options, Run.{TakesAll, TakesFront, Writer}}
use Rattle.grep_core.specs.{Files.Selected, Working.{SearchedBlocks.IsNextOf, OneLine.RowsOfLine}}
use Rattle.grep_io.specs.{Counted.one_more, Working.Numbered.Numbered}

-- no more work was done than the search of these lines costs
abbrev pub SearchesLines : Options → ℕ → List Text → Steps → Steps → Type 0
SearchesLines options matchers text old new = AddsAtMost (lines_cost options matchers text) old new

module _ (es : List Expression) (options : Options) (many : Bool) (name : Text) where
  -- the rows of the lines, the first of which has this number; `found` of them are selected
  abbrev pub RowsOfLines : ℕ → List Text → List Text → ℕ → Type 0
  RowsOfLines number [] rows found = (rows ≡ []) × (found ≡ 0)
  RowsOfLines number (line ∷ lines) rows found =
      (own : List Text) × (later : List Text) × (selected : Bool) × (others : ℕ)
      × RowsOfLine es options many name number line own
      × (IsTrue selected ↔ Selected es options line)
      × RowsOfLines (number + 1) lines later others
      × (rows ≡ own ++ later) × (found ≡ (if selected then others + 1 else others))

  module _ (number : ℕ) (lines : List Text) (old new : Writer) where
    -- they were written
    pub record TakesLines (found : ℕ) : Type 0 where
      pub rows : List Text
      pub are_rows : RowsOfLines number lines rows found
      pub wrote : TakesAll old new rows

    -- a beginning of them was written, and a write failed
    pub record BreaksLines : Type 0 where
      pub rows : List Text
      pub found : ℕ
      pub are_rows : RowsOfLines number lines rows found
      pub wrote : TakesFront old new rows
      pub counted : new.failures ≡ one_more old.failures

    -- why they are not done: a write failed, or there was no room for the parts of one of them, and
    -- nothing was written
    abbrev pub StopsLines : SearchFault → Type 0
    StopsLines Write = BreaksLines
    StopsLines (Memory n) = (n + 1 ≡ number) × (new ≡ old)

  module _ {R : Type 0} (now : Numbered R) (old new : Writer) (began ended : Steps) where
    -- the next lines were searched, and their rows were written
    pub record TakesHeld (held : SearchedLines) : Type 0 where
      pub all : List Text
      pub free : All HasNoNewline all
      pub next : IsNextOf now all
      pub width : held.bytes ≡ length (terminated all)
      pub counted : held.count ≡ length all
      pub took : TakesLines (now.number + 1) all old new held.found
      pub spent : SearchesLines options (length es) all began ended
      pub some : IsTrue held.goes_on → 1 ≤ length all

    -- the next lines were searched, and are not done
    pub record StopsHeld (fault : SearchFault) : Type 0 where
      pub all : List Text
      pub free : All HasNoNewline all
      pub next : IsNextOf now all
      pub stops : StopsLines (now.number + 1) all old new fault
      pub spent : SearchesLines options (length es) all began ended
