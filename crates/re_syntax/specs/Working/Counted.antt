-- The number of positions of a text's expression, its intervals written out.
use Rattle.std.specs.Prelude.{◌≡◌, ℕ, ◌-◌, ◌^◌, min}
use Rattle.re_syntax.specs.{declared.syntax.Syntax.Syntax, Spelled.IsSpelled}
use Rattle.re_trees.specs.{Bytes.Text, Expression.Expression, Holds.positions}

-- a number as a machine word keeps it: the greatest word where the number is greater
abbrev pub up_to_word : ℕ → ℕ
up_to_word n = min n (2 ^ 64 - 1)

-- the expression that the text spells has this number of positions
pub record HasPositions (syntax : Syntax) (text : Text) (count : ℕ) : Type 0 where
  pub expression : Expression
  pub spelled : IsSpelled syntax text expression
  pub counted : count ≡ up_to_word (positions expression)
