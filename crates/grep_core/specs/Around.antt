-- Selected lines and those around them (GNU grep, -A, -B and -C).
use Rattle.std.specs.Prelude.{get_or, suc, ◌≤◌, ◌<◌, ℕ, ◌++◌, ◌+◌, List, [], length, ⊤, ◌≡◌, codes}
use Rattle.std.specs.{Prelude.{◌∷◌, Option, zero}, List.enumerate_from}
use Rattle.re_syntax.specs.{Expression.Expression, Bytes.Text}
use Rattle.grep_core.specs.{declared.options.{Context.Context, Options.Options}, Files.Selected}
use Rattle.grep_core.specs.{Row.{colon, hyphen, head}, Choose.{EachGives, IfHolds}}

-- the output line between groups of lines that follow one another
abbrev pub group_separator : Text
group_separator = codes "--"

module _ (es : List Expression) (options : Options) (context : Context) where
  -- the line at place k is shown: a selected line of the file is there, or no more lines before or
  -- after it than are asked for
  pub record IsShown (lines : List Text) (k : ℕ) : Type 0 where
    pub place : ℕ
    pub on : place < length lines
    pub selected : Selected es options (get_or lines place [])
    pub before : place ≤ k + context.before
    pub after : k ≤ place + context.after

  -- the line before place k is not shown, or there is none
  abbrev pub BeginsGroup : List Text → ℕ → Type 0
  BeginsGroup lines zero = ⊤
  BeginsGroup lines (suc k) = ¬ IsShown lines k

  -- by the name and the number that are shown: the line after its head, in which a hyphen says that
  -- it is not selected
  abbrev pub IsRow : Option Text → Option ℕ → Text → Text → Type 0
  IsRow name number line row =
      IfHolds (Selected es options line) (row ≡ head colon name number ++ line)
      (row ≡ head hyphen name number ++ line)

  -- what is shown of the line at place k: its row, after a separator where a group begins with it
  abbrev pub Shows : Option Text → Option ℕ → List Text → ℕ → Text → List Text → Type 0
  Shows name number lines k line out =
      IfHolds (IsShown lines k)
      ((row : Text) × IsRow name number line row
      × IfHolds (BeginsGroup lines k) (out ≡ group_separator ∷ row ∷ []) (out ≡ row ∷ []))
      (out ≡ [])

  -- the groups of a file's lines, each after a separator; `shown_number` is what is shown of a
  -- line's number
  abbrev pub Groups : Option Text → (ℕ → Option ℕ) → List Text → List Text → Type 0
  Groups name shown_number lines out =
      EachGives (λ line. Shows name (shown_number (line.0 + 1)) lines line.0 line.1)
      (enumerate_from 0 lines) out
