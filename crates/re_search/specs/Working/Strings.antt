-- Expressions that are strings, each of which is added to some bytes with a newline after it.
use Rattle.std.specs.Prelude.{◌≡◌, ◌≤◌, List, All, ◌++◌, length, map}
use Rattle.re_syntax.specs.{Expression.{Expression, byte, sequence, choice}, Bytes.Text}
use Rattle.re_syntax.specs.Lines.{HasNoNewline, terminated}

-- the sequence of a string's bytes
abbrev pub string_expression : Text → Expression
string_expression string = sequence (map byte string)

-- the expressions are strings, and these were added
pub record AddsEach (es : List Expression) (old new : Text) : Type 0 where
  pub strings : List Text
  pub are : es ≡ map string_expression strings
  pub lines : All HasNoNewline strings
  pub added : new ≡ old ++ terminated strings

-- the expression is one of some strings, or the string that there is, and these were added
pub record AddsStrings (e : Expression) (old new : Text) : Type 0 where
  pub es : List Expression
  pub some : 1 ≤ length es
  pub is : e ≡ choice es
  pub each : AddsEach es old new
