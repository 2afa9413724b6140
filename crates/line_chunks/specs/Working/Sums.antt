-- Chunks with the numbers of their lines, summed up.
use Rattle.std.specs.Prelude.{◌≡◌, ℕ, ◌+◌, ◌≤◌, List, [], ◌∷◌, ◌++◌, length, map, take, ⊤}
use Rattle.line_chunks.specs.Working.Chunks.{KeptLine, AreFilled, AreFull, all_of, matched_count}
use Rattle.line_chunks.specs.declared.entries.Entry.{Entry}

abbrev pub chunks_of : List Entry → List (List KeptLine)
chunks_of entries = map (λ entry. entry.chunk) entries

-- these lines were added after those of the entries, and no chunk without lines, nor one after a
-- chunk of fewer than `limit` bytes
pub record AddsLines (limit : ℕ) (old : List Entry) (lines : List KeptLine)
    (new : List Entry) : Type 0 where
  pub all : all_of (chunks_of new) ≡ all_of (chunks_of old) ++ lines
  pub filled : AreFilled (chunks_of old) → AreFilled (chunks_of new)
  pub full : AreFull limit (chunks_of old) → AreFull limit (chunks_of new)

-- each entry has the numbers of lines and of matched lines up to its chunk's end, where so many are
-- before the first
abbrev pub AreSummed : ℕ → ℕ → List Entry → Type 0
AreSummed lines hits [] = ⊤
AreSummed lines hits (entry ∷ entries) =
    (entry.end ≡ lines + length entry.chunk) ×
    ((entry.hits ≡ hits + matched_count entry.chunk) × AreSummed entry.end entry.hits entries)

-- the sums of the first `k` entries are right
pub record IsSummedTo (entries : List Entry) (k : ℕ) : Type 0 where
  pub within : k ≤ length entries
  pub summed : AreSummed 0 0 (take k entries)
