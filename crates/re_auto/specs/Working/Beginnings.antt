-- Sets of bytes by marks.
use Rattle.std.specs.Prelude.{ℕ, ◌<◌, ◌≤◌, Bool, false, IsTrue, List, length, slice_index}
use Rattle.std.specs.Prelude.{slice_index_or}
use Rattle.re_trees.specs.Bytes.{Text}

-- the byte is marked
abbrev pub IsMarked : List Bool → ℕ → Type 0
IsMarked marks c = IsTrue (slice_index_or marks c false)

-- the first place from `from` on whose byte is marked, or the line's end if there is none
pub record IsFirstMarked (marks : List Bool) (line : Text) (from result : ℕ) : Type 0 where
  pub on : (from ≤ result) × (result ≤ length line)
  pub passed : (k : ℕ) → from ≤ k → k < result → ¬ IsMarked marks (slice_index line k)
  pub stops : result < length line → IsMarked marks (slice_index line result)
