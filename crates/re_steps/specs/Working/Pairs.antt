-- Cells that show what a bounded cache holds.
use Rattle.std.specs.Prelude.{length, ◌⊎◌, Option, List, Some, ℕ, ◌<◌, ◌-◌, nat_eq, ◌≡◌, None, ◌^◌}
use Rattle.std.specs.{Prelude.slice_index, Map.lookup}

-- the cells, the entries of the cache, and how many there may be
pub record Held : Type 0 where
  pub cells : List ℕ
  pub entries : List (ℕ × ℕ)
  pub most : ℕ

-- the cell of what is not held
abbrev pub unknown : ℕ
unknown = 2 ^ 32 - 1

-- a cell shows what the cache holds at its place
abbrev pub shown : Option ℕ → ℕ
shown None = unknown
shown (Some cell) = cell

-- each cell shows what the cache holds at its place, and it holds nothing at other places
pub record Mirrors (entries : List (ℕ × ℕ)) (cells : List ℕ) : Type 0 where
  pub shows : (at : ℕ) → at < length cells →
      slice_index cells at ≡ shown (lookup (nat_eq at) entries)
  pub within : (at cell : ℕ) → lookup (nat_eq at) entries ≡ Some cell →
      (at < length cells) × (cell < unknown)

-- a cell is as it was, or nothing is held at its place any more
abbrev pub IsKeptOrLost : ℕ → ℕ → Type 0
IsKeptOrLost old new = (new ≡ old) ⊎ (new ≡ unknown)
