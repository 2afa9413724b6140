-- The tokens that the text of an expression is cut into, as the standard's grammars have them (XBD
-- 9.5.1). In each syntax they are a relation between a text that begins with a token, the text
-- after it, and the token.
use Rattle.std.specs.Prelude.{◌∷◌, Bool, ℕ, Option}
use Rattle.re_syntax.specs.declared.tokens.ItemPlace.{ItemPlace}
use Rattle.re_trees.specs.{Expression.{Expression, byte}, Bytes.Text}

pub data Token : Type 0 where
  -- what opens and closes a group; what separates two branches
  opening closing bar : Token
  -- a `^` that is an anchor
  lead : Token
  -- a byte, a set of bytes, or a `$` that is an anchor
  atom : Expression → Token
  -- a duplication
  times : ℕ → Option ℕ → Token

-- a token of a fixed string: each byte is one
pub data FixedToken (g : Bool) (p : ItemPlace) : Text → Text → Token → Type 0 where
  one_byte : {u : Text} (b : ℕ) → FixedToken g p (b ∷ u) u (atom (byte b))
