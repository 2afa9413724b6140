-- Sets of numbers, as words of 64 bits, and tables whose rows are such sets.
use Rattle.std.specs.Prelude.{◌≡◌, ℕ, ◌+◌, ◌*◌, ◌/◌, ◌%◌, ◌<◌, ◌↔◌, List, length, slice_index}
use Rattle.std.specs.{Prelude.slice_range, Int.bit_at}

-- the set has the number
unfoldable pub Has : List ℕ → ℕ → Type 0
Has set e = bit_at (slice_index set (e / 64)) (e % 64) ≡ 1

-- the same of a set that is one word
abbrev pub InWord : ℕ → ℕ → Type 0
InWord word e = bit_at word e ≡ 1

-- row r of a table whose rows have `width` words
abbrev pub row_of : List ℕ → ℕ → ℕ → List ℕ
row_of table width r = slice_range table (r * width) (r * width + width)

-- the words are the set of the numbers that S names
abbrev pub Are : List ℕ → (ℕ → Type 0) → ℕ → Type 0
Are words S width = (length words ≡ width) × ((q : ℕ) → Has words q ↔ S q)

-- the row of each number below `rows` is the set of the numbers that S names for it
abbrev pub RowsAre : List ℕ → (ℕ → ℕ → Type 0) → ℕ → ℕ → Type 0
RowsAre table S rows width =
    (length table ≡ rows * width) × ((r q : ℕ) → r < rows → Has (row_of table width r) q ↔ S r q)
