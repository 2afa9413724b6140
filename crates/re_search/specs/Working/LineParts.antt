-- The search for the parts of one line: what is known of the line, and how much work it took.
use Rattle.std.specs.Prelude.{◌≡◌, ℕ, zero, suc, ◌+◌, ◌-◌, ◌<◌, ◌≤◌, ◌↔◌, ◌⊎◌, List, length}
use Rattle.std.specs.Prelude.{slice_index, Option, MatchOption}
use Rattle.re_syntax.specs.{Bytes.Text, Parts.{IsFound, IsPart}}
use Rattle.{re_trees.specs.declared.span.Span.Span, re_ends.specs.Working.GreatestEnds.FoundPast}
use Rattle.re_search.specs.Working.Sought.{Sought}

-- for how many bytes there is room, how many places were looked at, where the window begins that
-- was looked at last, and the ends of its places
pub record LineEnds : Type 0 where
  pub room : ℕ
  pub seen : ℕ
  pub first : ℕ
  pub ends : List ℕ

-- the places from `from` up to `seen` have the greatest end of the parts that begin there: it is in
-- the list for the places of the window, and there is none for others
abbrev pub AreEnds : Sought → Text → ℕ → ℕ → ℕ → List ℕ → Type 0
AreEnds sought line from seen first ends =
    (i m : ℕ) → from ≤ i → i < seen →
    ((first ≤ i) × (m < slice_index ends (i - first)))
    ↔ FoundPast sought.expressions line sought.whole i m

-- the places of a window have them
pub record AreEndsIn (sought : Sought) (line : Text) (start end : ℕ) (parts : LineEnds) : Type 0 where
  pub first : parts.first ≡ start
  pub long : length parts.ends ≡ end - start
  pub are_ends : (i m : ℕ) → i < end - start →
      (m < slice_index parts.ends i) ↔ FoundPast sought.expressions line sought.whole (start + i) m

-- the places of the line have them
abbrev pub AreAllEnds : Sought → Text → List ℕ → Type 0
AreAllEnds sought line ends =
    (i m : ℕ) → i < length line →
    (m < slice_index ends i) ↔ FoundPast sought.expressions line sought.whole i m

-- so have those from `from` on that were looked at; several matchers look at the whole line at once
pub record ArePartsOf (sought : Sought) (line : Text) (from : ℕ) (parts : LineEnds) : Type 0 where
  pub on_line : parts.seen ≤ length line
  pub at_once : (length sought.expressions ≡ 1) ⊎ (parts.seen ≡ 0) ⊎ (parts.seen ≡ length line)
  pub are_ends : AreEnds sought line from parts.seen parts.first parts.ends

-- the span is the next part; None says that none begins before `seen`
abbrev pub FindsBefore : Sought → Text → ℕ → ℕ → Option Span → Type 0
FindsBefore sought line from seen found =
    MatchOption found
    ((i j : ℕ) → IsFound sought.expressions line sought.whole from i j → seen ≤ i)
    (λ span. IsPart sought.expressions line sought.whole from span.start span.end)

-- how many steps a matcher takes at most for the places that were looked at, and how many bytes it
-- passes at most
abbrev pub spent : ℕ → ℕ
spent zero = 0
spent (suc k) = suc (suc k)
