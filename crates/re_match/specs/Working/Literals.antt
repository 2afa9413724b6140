-- Many fixed strings (XCU grep, options -F and -i).
use Rattle.std.specs.Prelude.{◌≡◌, ℕ, ◌-◌, ◌≤◌, ◌⊎◌, [], Bool, List, Option, Some, length, map}
use Rattle.std.specs.Prelude.{take, drop, if◌then◌else◌}
use Rattle.re_trees.specs.{Expression.{Expression, byte, sequence, alt}, Bytes.Text, Holds.folded}
use Rattle.{re_trees.specs.declared.span.Span.Span, re_meter.specs.Meters.{Steps, many_passed}}
use Rattle.re_strings.specs.Working.{FixedSets.{IsFront, IsString}, Reached.{EndsFirst, end_cost}}
use Rattle.re_strings.specs.Working.Keys.{keys}

-- the strings, and whether both cases of each letter are alike
pub record Literals : Type 0 where
  pub texts : List Text
  pub fold : Bool

-- the sequence of a string's bytes, with both cases of each letter where `fold` is set
abbrev pub literal_meaning : Bool → Text → Expression
literal_meaning fold text =
    if fold then folded (sequence (map byte text)) else sequence (map byte text)

-- a choice of what the strings mean
abbrev pub any_literal : Literals → Expression
any_literal literals = alt (map (literal_meaning literals.fold) literals.texts)

-- the strings as they are compared
abbrev pub keyed : Literals → List Text
keyed literals = map (keys literals.fold) literals.texts

-- the strings were looked for once, up to where the first of them ends; not at all where one of them
-- is empty
abbrev pub LooksForAny : Literals → Text → Steps → Steps → Type 0
LooksForAny literals bytes old new =
    (IsString (keyed literals) [] × (new ≡ old))
    ⊎ ((end : Option ℕ) × EndsFirst (keyed literals) (keys literals.fold bytes) end
    × (new ≡ many_passed (end_cost bytes end) old))

-- the search for a part went from a place up to another, and passed the bytes up to there: the line
-- ends there, or no string that begins where the part does, or before, can go on
pub record ReachesPart (literals : Literals) (line : Text) (from : ℕ) (found : Option Span)
    (old new : Steps) : Type 0 where
  pub place : ℕ
  pub low : from ≤ place
  pub within : place ≤ length line
  pub passed : new ≡ many_passed (place - from) old
  pub over : (place ≡ length line)
      ⊎ ((s : Span) × (found ≡ Some s)
      × ((i : ℕ) → from ≤ i → i ≤ s.start →
      ¬ IsFront (keyed literals) (drop i (take place (keys literals.fold line)))))
