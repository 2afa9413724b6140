-- The text that a cursor has not read, and how the cursor moves.
use Rattle.std.specs.Prelude.{◌≡◌, ℕ, ◌+◌, ◌++◌, length, drop}
use Rattle.{re_trees.specs.Bytes.Text, re_syntax.specs.declared.cursor.Cursor.Cursor}

abbrev pub left : Cursor → Text
left c = drop c.at c.text.now

-- the cursor is at this place of this text
pub record IsAt (text : Text) (at : ℕ) (c : Cursor) : Type 0 where
  pub text_is : c.text.now ≡ text
  pub place_is : c.at ≡ at

-- the cursor moved past these bytes of its text
pub record Passes (bytes : Text) (old new : Cursor) : Type 0 where
  pub same_text : new.text ≡ old.text
  pub passed : left old ≡ bytes ++ left new
  pub place_is : new.at ≡ old.at + length bytes
