-- How a matcher is made.
use Rattle.std.specs.Prelude.{None, ◌≡◌, All, ℕ, true, Bool, if◌then◌else◌, [], ◌<◌, Some, ◌⊎◌, ◌≤◌}
use Rattle.std.specs.{Prelude.{◌∷◌, List, length, Option}, List.AllZip}
use Rattle.re_syntax.specs.{Profile.most_patterns, Lines.lines_of}
use Rattle.re_syntax.specs.declared.{fault.PatternFault.PatternFault, syntax.Syntax.Syntax}
use Rattle.re_syntax.specs.{Expression.Expression, Spelled.IsMeant, Bytes.Text}
use Rattle.{re_meter.specs.Meters.fresh, re_search.specs.Reading.IsReadable}
use Rattle.{grep_core.specs.Matchers.IsFirstRefused, gaxtrel.specs.Kept.{Kept, Serves, sought_in}}
use Rattle.gaxtrel.specs.declared.{numbers.GaxtrelFault.GaxtrelFault, work.GaxtrelWork.GaxtrelWork}
use Rattle.gaxtrel.specs.declared.{options.GaxtrelOptions.GaxtrelOptions, held.Held.Held}
use Rattle.gaxtrel.specs.Calls.{steps_of, syntax_number, patterns_in, kind_number}

-- the options of the calls that take none
abbrev pub options_for : ℕ → Bool → Bool → Bool → Bool → GaxtrelOptions
options_for syntax fold whole lines apart = record {
  size = 32;
  syntax = syntax;
  fold = fold;
  whole = whole;
  lines = lines;
  apart = apart;
  patterns = most_patterns;
  limit = 0;
}

-- the options have their size, this syntax, and no more patterns than are allowed
abbrev pub AreKnown : GaxtrelOptions → Syntax → Type 0
AreKnown o syntax = (o.size ≡ 32) × (o.patterns ≤ most_patterns) × (o.syntax ≡ syntax_number syntax)

-- the patterns that a text is: its lines, or one
abbrev pub texts_for : GaxtrelOptions → Text → List Text
texts_for o text = if o.lines then lines_of text else text ∷ []

-- one pattern is apart
abbrev pub is_apart : GaxtrelOptions → Bool
is_apart o = if o.lines then o.apart else true

-- patterns were made of these texts
pub record AreMade (syntax : Syntax) (fold whole apart : Bool) (limit : ℕ) (texts : List Text)
    (kept : Kept) : Type 0 where
  pub es : List Expression
  pub meant : AllZip (λ text e. IsMeant syntax fold text e) texts es
  pub readable : All (IsReadable syntax fold) texts
  pub is_apart : kept.apart ≡ apart
  pub is_limited : kept.limit ≡ limit
  pub serves : Serves apart (sought_in kept) (record { expressions = es; whole = whole })

-- the fault of more patterns than there may be: the first of them that is too many
abbrev pub too_many : ℕ → GaxtrelFault
too_many most = record { kind = 15; at = 0; pattern = most }

-- the fault is that of the first text that is refused
abbrev pub IsRefused : Syntax → Bool → List Text → GaxtrelFault → Type 0
IsRefused syntax fold texts fault =
    (f : PatternFault) × IsFirstRefused syntax fold texts fault.pattern f
    × (fault.kind ≡ kind_number f.kind) × (fault.at ≡ f.at)

module _ (o : GaxtrelOptions) (text : Text) (held : Option Held) (old new : GaxtrelFault)
  where
    -- 3: the options are not known
    abbrev pub IsUnknown : ℕ → Type 0
    IsUnknown answer =
        (answer ≡ 3) × ((s : Syntax) → AreKnown o s → ⊥) × (held ≡ None) × (new ≡ old)

    -- 1: there are too many patterns, or one is refused
    abbrev pub AreRefused : Syntax → ℕ → Type 0
    AreRefused s answer = (answer ≡ 1) × (held ≡ None)
        × (((o.patterns < length (texts_for o text)) × (new ≡ too_many o.patterns))
        ⊎ ((length (texts_for o text) ≤ o.patterns) × IsRefused s o.fold (texts_for o text) new))

    -- 0: the patterns are held; 2: memory is refused
    abbrev pub AreHeld : Syntax → ℕ → Type 0
    AreHeld s answer = (length (texts_for o text) ≤ o.patterns) × (new ≡ old)
        × (((answer ≡ 2) × (held ≡ None))
        ⊎ ((answer ≡ 0) × ((kept : Kept) × (patterns_in held ≡ Some kept)
        × AreMade s o.fold o.whole (is_apart o) o.limit (texts_for o text) kept)))

    -- a matcher of a text is made, or not, and the answer says so
    abbrev pub Makes : GaxtrelWork → ℕ → Type 0
    Makes work answer = (steps_of work ≡ fresh) × (IsUnknown answer
        ⊎ ((s : Syntax) × AreKnown o s × (AreRefused s answer ⊎ AreHeld s answer)))
