-- How far a text and a line from a place on begin with the same bytes.
use Rattle.std.specs.Prelude.{◌≡◌, ℕ, ◌+◌, ◌<◌, ◌≤◌, length, slice_index}
use Rattle.re_trees.specs.Bytes.{Text}

-- the bytes of the line from this place on and before `end` begin the text
pub record AgreesUpTo (text line : Text) (place end : ℕ) : Type 0 where
  pub low : place ≤ end
  pub high : end ≤ length line
  pub short : end ≤ place + length text
  pub same : (k : ℕ) → place + k < end → slice_index text k ≡ slice_index line (place + k)

-- n is the length of the longest common beginning of the text and of the line from this place on
pub record CommonLength (text line : Text) (place n : ℕ) : Type 0 where
  pub agrees : AgreesUpTo text line place (place + n)
  pub stops : n < length text → place + n < length line → ¬ (slice_index text n ≡ slice_index line (place + n))
