-- What comes next at a place of a text.
use Rattle.std.specs.Prelude.{◌≡◌, ℕ, ◌+◌, ◌≤◌, ◌++◌, length, drop}
use Rattle.re_trees.specs.Bytes.{Text}

-- the text has these bytes from one place up to another
pub record IsAfter (bytes text : Text) (at beyond : ℕ) : Type 0 where
  pub within : beyond ≤ length text
  pub front : drop at text ≡ bytes ++ drop beyond text
  pub place : beyond ≡ at + length bytes
