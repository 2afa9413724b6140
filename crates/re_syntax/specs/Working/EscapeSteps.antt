-- What reading a backslash and the byte after it says.
use Rattle.std.specs.Prelude.{◌≡◌, ℕ, ◌+◌, ◌≤◌, ◌∷◌, ◌++◌, length, drop, IsTrue, codes}
use Rattle.{re_trees.specs.Bytes.Text, re_syntax.specs.Escapes.is_undefined}

-- an escape of a byte
pub record EscapeStands (others text : Text) (at byte : ℕ) : Type 0 where
  pub within : at + 2 ≤ length text
  pub front : drop at text ≡ codes "\\" ++ byte ∷ drop (at + 2) text
  pub allowed : ¬ IsTrue (is_undefined others byte)
