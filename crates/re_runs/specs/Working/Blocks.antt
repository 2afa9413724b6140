-- Blocks of whole lines, and what a look at one says of its first lines.
use Rattle.std.specs.Prelude.{◌≡◌, ℕ, ◌+◌, ◌<◌, ◌≤◌, ◌⊎◌, Bool, List, [], ◌∷◌, ◌++◌, All, length}
use Rattle.std.specs.Prelude.{drop, slice_range, Option, Some, None, MatchOption}
use Rattle.re_trees.specs.{Bytes.Text, Lines.{newline, terminated, HasNoNewline}}
use Rattle.re_trees.specs.{Expression.Expression, Holds.Matches, declared.span.Span.Span}
use Rattle.{memchr.specs.Find.{OccursAt, FindsNeedle}, re_meter.specs.Meters.{many_passed, Steps}}
use Rattle.re_runs.specs.{Working.Runs.look_cost, declared.block.Swept.Swept}

-- a newline ends each line of the text
abbrev pub IsBlock : Text → Type 0
IsBlock text = (lines : List Text) × All HasNoNewline lines × (text ≡ terminated lines)

-- the text occurs nowhere in the line
abbrev pub Lacks : Text → Text → Type 0
Lacks text line = (k : ℕ) → ¬ OccursAt line text k

-- a line begins at the first place, and its newline is at the second
abbrev pub IsLineFrom : Text → ℕ → ℕ → Type 0
IsLineFrom text start end = (start ≤ end) × (end < length text)
    × HasNoNewline (slice_range text start end)
    × (drop start text ≡ slice_range text start end ++ newline ∷ drop (end + 1) text)

-- the first `count` bytes are whole lines, and this holds of each of them
abbrev pub PassesAll : (Text → Type 0) → Text → ℕ → Type 0
PassesAll Holds bytes count =
    (lines : List Text) × (rest : Text) × All HasNoNewline lines × All Holds lines ×
    (bytes ≡ terminated lines ++ rest) × (count ≡ length (terminated lines))

-- the first `count` bytes are whole lines, none of which the expression matches
abbrev pub PassesUnmatched : Expression → Bool → Text → ℕ → Type 0
PassesUnmatched e whole block count = PassesAll (λ line. ¬ Matches e line whole) block count

-- the text occurs in the line
abbrev pub StandsIn : Text → Text → Type 0
StandsIn text line = (k : ℕ) × OccursAt line text k

-- this holds of `count` of the lines
abbrev pub HoldsOfMany : (Text → Type 0) → List Text → ℕ → Type 0
HoldsOfMany Holds [] count = count ≡ 0
HoldsOfMany Holds (line ∷ lines) count =
    (others : ℕ) × HoldsOfMany Holds lines others
    × ((Holds line × (count ≡ others + 1)) ⊎ ((Holds line → ⊥) × (count ≡ others)))

-- ---- the next line that is matched

-- the place, in the bytes of the lines with their newlines, of the first line for which this holds
pub record IsNext (Holds : Text → Type 0) (lines : List Text) (place : Span) : Type 0 where
  pub before : List Text
  pub line : Text
  pub after : List Text
  pub divided : lines ≡ before ++ line ∷ after
  pub passed : All (λ l. ¬ Holds l) before
  pub holds : Holds line
  pub starts : place.start ≡ length (terminated before)
  pub ends : place.end ≡ place.start + length line

-- the place of the first line for which this holds; None says that there is none
abbrev pub FindsNext : (Text → Type 0) → List Text → Option Span → Type 0
FindsNext Holds lines found =
    MatchOption found (All (λ line. ¬ Holds line) lines) (IsNext Holds lines)

-- of the first line that is matched
abbrev pub FindsMatched : Expression → Bool → List Text → Option Span → Type 0
FindsMatched e whole lines found = FindsNext (λ line. Matches e line whole) lines found

-- ---- what a search may cost

-- a search for the next line of a block: a step for each byte up to the newline of the line that
-- was found, and one for the newline; one for each byte of the block if none was found
abbrev pub next_cost : Text → Option Span → ℕ
next_cost block None = length block
next_cost block (Some place) = place.end + 1

-- ---- looks over a block

-- the line in which a look stopped, by its beginning, goes on to the place that was found
abbrev pub StopsInLine : Text → Swept → Type 0
StopsInLine block swept =
    (end : ℕ) → IsLineFrom block swept.start end → look_cost block swept.place ≤ end + 1

-- the string was looked for once, from the first byte on
abbrev pub LooksOnce : Text → Text → Steps → Steps → Type 0
LooksOnce text bytes old new =
    (found : Option ℕ) × FindsNeedle bytes text 0 found ×
    (new ≡ many_passed (look_cost bytes found) old)
