-- Ranges of words that contain the members of rows.
use Rattle.std.specs.Prelude.{◌≡◌, ℕ, ◌/◌, ◌<◌, ◌≤◌, List, length, Some, slice_get}
use Rattle.re_auto.specs.{declared.ranges.WordRange.WordRange, Working.Bits.{Has, row_of}}

-- the range is one of the set's words, and each member is in a word of it
pub record Covers (range : WordRange) (set : List ℕ) : Type 0 where
  pub ordered : range.first ≤ range.past
  pub within : range.past ≤ length set
  pub members : (q : ℕ) → Has set q → (range.first ≤ q / 64) × (q / 64 < range.past)

-- each of the table's `rows` rows has a range, which covers it
abbrev pub CoverRows : List WordRange → List ℕ → ℕ → ℕ → Type 0
CoverRows ranges table rows width =
    (length ranges ≡ rows) ×
    ((r : ℕ) (range : WordRange) → slice_get ranges r ≡ Some range →
    Covers range (row_of table width r))
