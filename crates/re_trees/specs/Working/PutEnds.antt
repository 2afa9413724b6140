-- Ends that are put at the places of a line.
use Rattle.std.specs.Prelude.{◌≡◌, ℕ, ◌<◌, ◌↔◌, ◌⊎◌, List, length, slice_index}
use Rattle.re_trees.specs.Bytes.{Text}

-- each place of the line has the greatest of the end that it had and of the new ones, which for
-- place i are greater than each m for which `Past i m` holds
abbrev pub AddsEnds : (ℕ → ℕ → Type 0) → Text → List ℕ → List ℕ → Type 0
AddsEnds Past line old new =
    (length new ≡ length line) ×
    ((i m : ℕ) → i < length line →
    (m < slice_index new i) ↔ ((m < slice_index old i) ⊎ Past i m))
