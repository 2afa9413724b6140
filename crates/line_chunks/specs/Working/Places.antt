-- Where a line is among chunks.
use Rattle.std.specs.Prelude.{◌≡◌, ℕ, ◌+◌, ◌≤◌, List, [], length, take, get_or}
use Rattle.line_chunks.specs.Working.Chunks.{KeptLine, all_of}

-- so many lines are before the chunk at `chunk` and among the first `offset` of its lines
pub record IsPlace (chunks : List (List KeptLine)) (place chunk offset : ℕ) : Type 0 where
  pub place_is : place ≡ length (all_of (take chunk chunks)) + offset
  pub offset_within : offset ≤ length (get_or chunks chunk [])
  pub chunk_within : chunk ≤ length chunks
