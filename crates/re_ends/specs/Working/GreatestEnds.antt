-- Greatest ends: for each position, the greatest place at which a stretch can end that takes the
-- byte at a place with it.
use Rattle.std.specs.Prelude.{◌≡◌, None, ◌<◌, suc, Option, ◌≤◌, ◌+◌, ℕ, slice_index, Bool, List}
use Rattle.std.specs.Prelude.{length, ◌⊎◌, Some, zero, ◌↔◌}
use Rattle.re_trees.specs.{declared.span.Span.Span, Parts.IsFound, Holds.Holds}
use Rattle.re_trees.specs.{Expression.Expression, Bytes.Text}
use Rattle.re_auto.specs.Working.Positions.{is_end, Part, part_of, ByteAt}
pub use Rattle.re_trees.specs.Working.PutEnds.{AddsEnds}

-- A stretch that takes the byte at place p with position q can take n bytes more and end there.
abbrev pub Leads : Part → Text → ℕ → ℕ → ℕ → Type 0
Leads part line p zero q = ByteAt (part.takes q) line p × part.last (is_end line (suc p)) q
Leads part line p (suc n) q =
    ByteAt (part.takes q) line p × ((r : ℕ) × part.follow q r × Leads part line (suc p) n r)

-- it can end after place m
abbrev pub LeadsPast : Part → Text → ℕ → ℕ → ℕ → Type 0
LeadsPast part line p q m = (n : ℕ) × (m ≤ p + n) × Leads part line p n q

-- a matched stretch that is not empty begins at i and ends after m
abbrev pub MatchesPast : Expression → Text → ℕ → ℕ → Type 0
MatchesPast e line i m = (j : ℕ) × (m < j) × (i < j) × (j ≤ length line) × Holds line e i j

-- some expression has a part that begins at i, wherever the search began, and ends after m
abbrev pub FoundPast : List Expression → Text → Bool → ℕ → ℕ → Type 0
FoundPast es line whole i m = (j : ℕ) × (m < j) × IsFound es line whole 0 i j

-- no match goes over this place: it is the line's end, or no position takes the byte there
abbrev pub IsBorder : Expression → Text → ℕ → Type 0
IsBorder e line p =
    (p ≡ length line)
    ⊎ ((p < length line) × ((q : ℕ) → (part_of e 0).takes q (slice_index line p) → ⊥))

-- the first matched stretch that is not empty and begins from `start` on and before `end`, the
-- longest there
abbrev pub FindsIn : Expression → Text → ℕ → ℕ → Option Span → Type 0
FindsIn e line start end None = (i m : ℕ) → start ≤ i → i < end → MatchesPast e line i m → ⊥
FindsIn e line start end (Some s) =
    (start ≤ s.start) × (s.start < end) × (s.start < s.end)
    × ((m : ℕ) → (m < s.end) ↔ MatchesPast e line s.start m)
    × ((i m : ℕ) → start ≤ i → i < s.start → MatchesPast e line i m → ⊥)
