-- Files as grep sees them, and which of their lines it selects (XCU grep, DESCRIPTION and INPUT
-- FILES).
use Rattle.std.specs.{Prelude.{List, MatchBool, Any}, List.AllZip}
use Rattle.re_syntax.specs.{declared.syntax.Syntax.Syntax, Bytes.Text, Expression.Expression}
use Rattle.re_syntax.specs.{Holds.Matches, Spelled.IsMeant}
use Rattle.grep_core.specs.declared.options.Options.{Options}
pub use Rattle.grep_io.specs.File.{File, Ending, whole, missing, broken}

-- all that grep's output is of
pub record Inputs : Type 0 where
  pub syntax : Syntax
  pub options : Options
  pub patterns : List Text
  pub files : List File

-- the expressions that the patterns mean, one for each
abbrev pub AreMeant : Syntax → Options → List Text → List Expression → Type 0
AreMeant syntax options patterns es =
    AllZip (λ text e. IsMeant syntax options.ignore_case text e) patterns es

-- the expressions that the patterns of the inputs mean
abbrev pub Mean : Inputs → List Expression → Type 0
Mean inputs es = AreMeant inputs.syntax inputs.options inputs.patterns es

module _ (es : List Expression) (options : Options) where
  -- some expression matches some part of the line; under `-x` the whole line
  abbrev pub Matched : Text → Type 0
  Matched line = Any (λ e. Matches e line options.line_regexp) es

  -- grep selects the lines that are matched, and under `-v` the others
  abbrev pub Selected : Text → Type 0
  Selected line = MatchBool options.invert_match (Matched line → ⊥) (Matched line)

  abbrev pub HasSelected : File → Type 0
  HasSelected file = Any Selected file.lines
