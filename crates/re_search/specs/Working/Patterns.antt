-- What the text of a pattern is read as.
use Rattle.std.specs.Prelude.{◌≡◌, ◌≤◌, Bool, true, false, IsTrue, if◌then◌else◌, length}
use Rattle.re_syntax.specs.{declared.syntax.Syntax.Syntax, Expression.Expression}
use Rattle.re_syntax.specs.{Profile.most_positions, Bytes.Text, Working.Trees.expression_of}
use Rattle.re_syntax.specs.{Holds.{positions, folded}, Spelled.{has_limit, IsSpelled}}
use Rattle.re_search.specs.{Working.Strings.string_expression, declared.pattern.Pattern.Pattern}
use Rattle.re_search.specs.Reading.{IsSmallFor}
use Rattle.re_search.specs.declared.pattern.Pattern.TheVariants as p

abbrev pub pattern_expression : Pattern → Expression
pattern_expression (p.String text) = string_expression text.now
pattern_expression (p.Tree tree count) = expression_of tree

-- whether it is a string
abbrev pub is_string : Pattern → Bool
is_string (p.String text) = true
is_string (p.Tree tree count) = false

-- what an expression means, with both cases of each letter where `fold` is set
abbrev pub meaning : Bool → Expression → Expression
meaning fold e = if fold then folded e else e

abbrev pub meant_by : Bool → Pattern → Expression
meant_by fold pattern = meaning fold (pattern_expression pattern)

-- its positions are known, and few where an automaton may be made for it
abbrev pub IsCounted : Bool → Pattern → Type 0
IsCounted fold (p.String text) = IsTrue fold → length text.now ≤ most_positions
IsCounted fold (p.Tree tree count) =
    (count ≡ positions (expression_of tree)) × (count ≤ most_positions)

-- a text is read so
pub record IsPattern (syntax : Syntax) (fold : Bool) (text : Text)
    (pattern : Pattern) : Type 0 where
  pub spelled : IsSpelled syntax text (pattern_expression pattern)
  pub small : IsSmallFor syntax fold (pattern_expression pattern)
  pub counted : IsCounted fold pattern
  pub kind : has_limit syntax fold ≡ false → is_string pattern ≡ true
