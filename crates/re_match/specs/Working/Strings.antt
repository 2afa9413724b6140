-- Matchers for fixed strings: one string by itself, or many in one pass.
use Rattle.std.specs.Prelude.{◌⊎◌, Option, ◌-◌, ◌≡◌, map, ◌+◌, Bool, Some, drop, [], None, true}
use Rattle.std.specs.Prelude.{length, ℕ}
use Rattle.re_trees.specs.{Bytes.Text, declared.span.Span.Span}
use Rattle.re_trees.specs.Expression.{Expression, byte, sequence}
use Rattle.{re_meter.specs.Meters.{many_built, Steps}, re_runs.specs.Working.Blocks.LooksOnce}
use Rattle.re_match.specs.declared.strings.Look.{TheVariants.{One, Many}, Look}
use Rattle.re_match.specs.Working.Literals.{LooksForAny, any_literal, Literals, ReachesPart}

-- how strings are looked for, and whether the whole line has to be one of them (XCU grep, option -x)
pub record StringMatcher : Type 0 where
  pub look : Look
  pub whole : Bool

-- the sequence of the one string's bytes, or a choice of what the many mean
abbrev pub look_expression : Look → Expression
look_expression (One text) = sequence (map byte text)
look_expression (Many set) = any_literal set.value

abbrev pub matched_strings : StringMatcher → Expression
matched_strings matcher = look_expression matcher.look

-- they are looked for as a set, and are these
abbrev pub IsForSet : Look → Literals → Type 0
IsForSet (One text) literals = ⊥
IsForSet (Many set) literals = set.value ≡ literals

-- they were looked for once: up to where the one string begins, or the first of many ends
abbrev pub LooksFor : Look → Text → Steps → Steps → Type 0
LooksFor (One text) bytes old new = LooksOnce text bytes old new
LooksFor (Many set) bytes old new = LooksForAny set.value bytes old new

-- the same, or the whole line has to be one of them, and so many steps were counted
pub record CountsLook (matcher : StringMatcher) (bytes : Text) (steps : ℕ)
    (old new : Steps) : Type 0 where
  pub looked : Steps
  pub looks : ((matcher.whole ≡ true) × (looked ≡ old)) ⊎ LooksFor matcher.look bytes old looked
  pub counted : new ≡ many_built steps looked

-- how many bytes a search for a part from a place on answers for: those up to the part's end; if
-- there is none, those up to the line's end, and one more
abbrev pub part_cost : Text → ℕ → Option Span → ℕ
part_cost line from None = length line - from + 1
part_cost line from (Some part) = part.end - from

-- they were looked for from a place on; not at all where the one string is empty
abbrev pub LooksForPart : Look → Text → ℕ → Option Span → Steps → Steps → Type 0
LooksForPart (One text) line from found old new =
    ((text ≡ []) × (new ≡ old)) ⊎ LooksOnce text (drop from line) old new
LooksForPart (Many set) line from found old new = ReachesPart set.value line from found old new

-- and so many steps were counted
pub record CountsPart (look : Look) (line : Text) (from : ℕ) (found : Option Span)
    (old new : Steps) : Type 0 where
  pub looked : Steps
  pub looks : LooksForPart look line from found old looked
  pub counted : new ≡ many_built (part_cost line from found) looked
