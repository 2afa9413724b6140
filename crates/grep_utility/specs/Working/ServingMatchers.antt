-- The matchers that a search uses for the patterns of a request.
use Rattle.std.specs.Prelude.{◌≡◌, ℕ, ◌≤◌, ◌+◌, Bool, List, [], ◌∷◌, ◌++◌, length, map, All}
use Rattle.std.specs.List.{AllZip}
use Rattle.re_syntax.specs.{declared.syntax.Syntax.Syntax, Expression.Expression, Bytes.Text}
use Rattle.re_search.specs.declared.{matcher.Matcher.Matcher, pattern.Pattern.Pattern}
use Rattle.re_search.specs.Working.Matchers.{AreAlike, expressions_of, matched_expression, room_of}
use Rattle.re_search.specs.Working.{Matchers.wants_whole, Literals.{literal_meaning, any_literal}}
use Rattle.re_search.specs.{Working.Patterns.{meant_by, IsPattern}, Reading.IsReadable}
use Rattle.grep_core.specs.{declared.options.Options.Options, Files.AreMeant}
use Rattle.grep_core.specs.Working.{SameChoice.IsSameChoice, MatcherLists.KeepAtMost}

-- how many entries the cache of a matcher may have at most
abbrev pub most_kept : ℕ
most_kept = 16384

-- no cache may have more
abbrev pub HaveRoom : List Matcher → Type 0
HaveRoom = KeepAtMost most_kept

-- matchers of the same choice as what the patterns mean, and no more than these; each pattern is
-- readable
pub record ServeFor (syntax : Syntax) (options : Options) (texts : List Text)
    (matchers : List Matcher) : Type 0 where
  pub es : List Expression
  pub meant : AreMeant syntax options texts es
  pub same : IsSameChoice (expressions_of matchers) es
  pub fewer : length (expressions_of matchers) ≤ length es
  pub wholes : AreAlike options.line_regexp matchers
  pub rooms : HaveRoom matchers
  pub readable : All (IsReadable syntax options.ignore_case) texts

-- what patterns are read as
abbrev pub ArePatterns : Syntax → Bool → List Text → List Pattern → Type 0
ArePatterns syntax fold texts patterns = AllZip (IsPattern syntax fold) texts patterns

-- matchers and a choice of expressions that no matcher has yet: together they are the same choice
-- as these expressions, and no more than these
pub record AreGrouped (whole : Bool) (es : List Expression) (matchers : List Matcher)
    (choice : List Expression) : Type 0 where
  pub same : IsSameChoice (expressions_of matchers ++ choice) es
  pub fewer : length matchers + length choice ≤ length es
  pub wholes : AreAlike whole matchers
  pub rooms : HaveRoom matchers

-- the patterns are strings: they mean the same choice as these
abbrev pub AreReadAs : Bool → List Pattern → List Text → Type 0
AreReadAs fold patterns strings =
    IsSameChoice (map (literal_meaning fold) strings) (map (meant_by fold) patterns)

-- the texts are read as patterns that are these strings
abbrev pub AreStrings : Syntax → Bool → List Text → List Text → Type 0
AreStrings syntax fold texts strings =
    (patterns : List Pattern) × ArePatterns syntax fold texts patterns × AreReadAs fold patterns strings

-- there is one matcher, which looks for all strings
pub record IsJoined (options : Options) (strings : List Text)
    (matchers : List Matcher) : Type 0 where
  pub one : Matcher
  pub alone : matchers ≡ one ∷ []
  pub expression : matched_expression one ≡
      any_literal (record { texts = strings; fold = options.ignore_case })
  pub whole : wants_whole one ≡ options.line_regexp
  pub room : room_of one ≡ 0
