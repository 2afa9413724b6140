-- What is found in the lines of a chunk after a change of the patterns, and put in a column.
use Rattle.std.specs.Prelude.{◌≡◌, ℕ, zero, suc, ◌<◌, Bool, true, false, List, [], ◌++◌, All}
use Rattle.std.specs.Prelude.{length, drop, take, get_or, slice_range, ◌+◌, ◌-◌, ◌≤◌, ◌&&◌, ◌||◌}
use Rattle.std.specs.{Prelude.{Option, Some, None, if◌then◌else◌}, List.{AllZip, Any}}
use Rattle.re_syntax.specs.{Bytes.Text, Expression.Expression, Holds.Matches, Lines.terminated}
use Rattle.re_trees.specs.declared.span.Span.{Span}
use Rattle.grep_core.specs.{declared.options.Options.Options, Cost.search_cost}
use Rattle.line_chunks.specs.Working.Finds.{FoundIn, AreBelow, has_own, is_paired, left_numbers}
use Rattle.line_chunks.specs.Working.{Finds.numbers_at, Chunks.{KeptLine, no_line, FitsColumn}}
use Rattle.grep_session.specs.Working.Kept.{AddsMatching, ArePartsKept, IsColumn, IsKept}
use Rattle.grep_session.specs.{Working.Changed.HasChanged, declared.change.Change.Change}

-- ---- the numbers of a line

-- an expression that went matched the line with these pairs
abbrev pub had_gone : Change → List (ℕ × ℕ) → ℕ → Bool
had_gone change old k = has_own change.first change.gone (numbers_at k old)

-- the line is searched by the expressions that came
abbrev pub is_sought : Change → List (ℕ × ℕ) → ℕ → Bool
is_sought change old k = if change.narrower then had_gone change old k else true

-- for each of the lines, the numbers of the expressions that match it were added, of which the
-- first has the number `first`, if none matches one of the lines that are not searched
pub record AddsColumn (sought : ℕ → Bool) (texts : List Text) (entire : Bool) (first : ℕ)
    (es : List Expression) (old new : List (ℕ × ℕ)) : Type 0 where
  pub more : List (ℕ × ℕ)
  pub added : new ≡ old ++ more
  pub within : AreBelow (length texts) more
  pub numbers : (k : ℕ) → k < length texts →
      (sought k ≡ false → ¬ Any (λ e. Matches e (get_or texts k []) entire) es) →
      AddsMatching (get_or texts k []) entire first es (numbers_at k old) (numbers_at k new)

abbrev pub came : Change → List Expression → List Expression
came change es = drop change.first (take (change.first + change.come) es)

-- the old pairs of the expressions that stay
pub record AreLeft (change : Change) (size : ℕ) (old left : List (ℕ × ℕ)) : Type 0 where
  pub within : AreBelow size left
  pub numbers : (k : ℕ) → numbers_at k left ≡
      left_numbers change.first change.gone (change.gone - change.come) (numbers_at k old)
  pub same : All (λ pair. pair.1 < change.first) old → left ≡ old

-- they, and the pairs of those that came
pub record AreMatches (change : Change) (texts : List Text) (entire : Bool) (es : List Expression)
    (old new : List (ℕ × ℕ)) : Type 0 where
  pub left : List (ℕ × ℕ)
  pub are_left : AreLeft change (length texts) old left
  pub adds : AddsColumn (is_sought change old) texts entire change.first (came change es) left new

-- ---- the parts of a line

-- the parts of a line that some expression matches are searched anew, by the numbers that were kept
-- of it and the new ones
abbrev pub has_new_parts : Change → List ℕ → List ℕ → Bool
has_new_parts change old new =
    change.all_parts ||
    (has_own change.first change.gone old || has_own change.first change.come new)

-- what was found stays: no expression that went or moved had a pair, and none was added
pub record StaysSame (change : Change) (old new : List (ℕ × ℕ)) : Type 0 where
  pub some : change.all_parts ≡ false
  pub as_many : length new ≡ length old
  pub earlier : All (λ pair. pair.1 < change.first) old

-- the parts of a line: none if no expression matches it, searched anew, or those that were kept
abbrev pub ArePartsAgain : Bool → Bool → List Expression → Options → KeptLine → List Span → Type 0
ArePartsAgain false anew es options line spans = spans ≡ []
ArePartsAgain true true es options line spans = ArePartsKept es options line.text spans
ArePartsAgain true false es options line spans = spans ≡ line.found.spans

-- the parts of each of the lines of a chunk
abbrev pub AreAllParts : Change → List Expression → Options → List KeptLine → List (ℕ × ℕ) →
    List (ℕ × ℕ) → List (List Span) → Type 0
AreAllParts change es options lines old new parts =
    (k : ℕ) → k < length lines → options.only_matching ≡ true →
    ArePartsAgain (is_paired k new) (has_new_parts change (numbers_at k old) (numbers_at k new)) es
    options (get_or lines k no_line) (get_or parts k [])

-- ---- costs

-- the cost of searching once by so many patterns those of the first `k` lines that are marked
abbrev pub marked_cost : (ℕ → Bool) → ℕ → List Text → ℕ → ℕ
marked_cost mark many texts zero = 0
marked_cost mark many texts (suc k) =
    marked_cost mark many texts k + (if mark k then search_cost many (get_or texts k []) else 0)

-- the parts of a line are searched anew
abbrev pub is_parted : Change → List (ℕ × ℕ) → List (ℕ × ℕ) → ℕ → Bool
is_parted change old new k =
    is_paired k new && has_new_parts change (numbers_at k old) (numbers_at k new)

-- ---- columns

-- what was found in these chunks was added, and fits them; it is right for what was kept before
pub record AddsColumns (change : Change) (es : List Expression) (options : Options)
    (chunks : List (List KeptLine)) (old new : List (Option FoundIn)) : Type 0 where
  pub found : List (Option FoundIn)
  pub added : new ≡ old ++ found
  pub fit : AllZip FitsColumn chunks found
  pub are_right : (h : HasChanged change es options) → All (All (IsKept h.before h.was)) chunks →
      AllZip (IsColumn es options) chunks found

-- ---- the next line of a chunk that an expression matches

-- the number of the first line from line `from` on that the expression matches; None says that there
-- is none
abbrev pub IsNextLine : Expression → Bool → List Text → ℕ → Option ℕ → Type 0
IsNextLine e entire texts from None =
    (k : ℕ) → from ≤ k → k < length texts → ¬ Matches e (get_or texts k []) entire
IsNextLine e entire texts from (Some next) =
    (from ≤ next) × (next < length texts) × Matches e (get_or texts next []) entire
    × ((k : ℕ) → from ≤ k → k < next → ¬ Matches e (get_or texts k []) entire)

-- the bytes of the lines up to it, with their newlines
abbrev pub next_line_cost : List Text → ℕ → Option ℕ → ℕ
next_line_cost texts from None = length (terminated (drop from texts))
next_line_cost texts from (Some next) = length (terminated (slice_range texts from (next + 1)))
