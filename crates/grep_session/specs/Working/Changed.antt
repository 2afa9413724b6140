-- What becomes of what is kept when patterns change, and how many steps that takes.
use Rattle.std.specs.Prelude.{⊤, MatchBool, false, true, length, ◌≤◌, ◌⊎◌, [], ◌+◌, ◌≡◌, List, ℕ}
use Rattle.std.specs.Prelude.{Bool, ◌++◌}
use Rattle.re_syntax.specs.{Expression.Expression, Bytes.Text}
use Rattle.grep_core.specs.{declared.options.Options.Options, Choose.Chosen, Files.Matched}
use Rattle.grep_core.specs.Meters.{Steps, AddsAtMost}
use Rattle.grep_session.specs.{declared.change.Change.Change, Touched.{pairs_cost, parting}}

-- from number `first` on so many patterns went, and so many came
abbrev pub exchanged : ℕ → ℕ → ℕ → Bool → Change
exchanged first gone come narrower =
    record { first = first; gone = gone; come = come; narrower = narrower; all_parts = false }

-- the first patterns went, so many came, and all parts are searched
abbrev pub anew : ℕ → ℕ → Change
anew gone come = record { first = 0; gone = gone; come = come; narrower = false; all_parts = true }

-- the expressions before a change, and the options under which lines were searched by them: `come`
-- came in place of `gone`, and those after them have no greater number than before
pub record HasChanged (change : Change) (es : List Expression) (options : Options) : Type 0 where
  pub front : List Expression
  pub gone : List Expression
  pub come : List Expression
  pub back : List Expression
  pub before : List Expression
  pub was : Options
  pub old : before ≡ front ++ (gone ++ back)
  pub new : es ≡ front ++ (come ++ back)
  pub at : change.first ≡ length front
  pub went : change.gone ≡ length gone
  pub came : change.come ≡ length come
  pub fits : (length come ≤ length gone) ⊎ (back ≡ [])
  pub alike : (options.line_regexp ≡ was.line_regexp) ⊎ ((front ≡ []) × (back ≡ []))
  pub same : change.all_parts ≡ false → options ≡ was
  pub narrows : change.narrower ≡ true → (options ≡ was) ×
      ((line : Text) → Matched come options line → Matched gone options line)

module _ (change : Change) (gone : List Expression) (options : Options) where
  -- the line is searched by the expressions that came: if they are narrower, where one that went
  -- matches it
  abbrev pub IsSought : Text → Type 0
  IsSought line = MatchBool change.narrower (Matched gone options line) ⊤

  module _ (come : List Expression) where
    -- the parts of the line are searched, if some expression matches it
    abbrev pub HasNewParts : Text → Type 0
    HasNewParts line = MatchBool change.all_parts ⊤ (Matched (gone ++ come) options line)

    -- some expression matches the line, and its parts are searched
    abbrev pub IsParted : List Expression → Text → Type 0
    IsParted es line = Matched es options line × HasNewParts line

-- no more steps were taken, and no more bytes passed, than the search of these lines costs by the
-- expressions that came, and that for their parts
pub record SearchesEach (change : Change) (gone come es : List Expression) (options : Options)
    (lines : List Text) (begun ended : Steps) : Type 0 where
  pub paired : List Text
  pub are_paired : Chosen (IsSought change gone options) lines paired
  pub parted : List Text
  pub are_parted : Chosen (IsParted change gone options come es) lines parted
  pub few : AddsAtMost (pairs_cost change.come paired + pairs_cost (parting es options) parted)
      begun ended
