-- What an editor lists of a line that grep selects.
use Rattle.std.specs.Prelude.{◌≡◌, ℕ, List, [], MatchBool}
use Rattle.re_syntax.specs.{Bytes.Text, Expression.Expression, Parts.AreParts}
use Rattle.grep_core.specs.declared.options.Options.{Options}

-- under `-o` all parts of a line are listed, and otherwise none; a line that is selected under `-v`
-- has none
abbrev pub ListedParts : List Expression → Options → Text → List (ℕ × ℕ) → Type 0
ListedParts es options line parts =
    MatchBool options.only_matching (AreParts es line options.line_regexp parts) (parts ≡ [])
