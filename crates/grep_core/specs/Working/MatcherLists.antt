-- The matchers of patterns.
use Rattle.std.specs.Prelude.{◌≡◌, ℕ, ◌≤◌, List, length, map, All}
use Rattle.re_syntax.specs.{declared.syntax.Syntax.Syntax, Bytes.Text}
use Rattle.re_search.specs.Working.Matchers.{AreAlike, expressions_of, room_of}
use Rattle.re_search.specs.{declared.matcher.Matcher.Matcher, Reading.IsReadable}
use Rattle.grep_core.specs.{declared.options.Options.Options, Files.AreMeant}

-- one matcher for each pattern, each of which is readable
pub record AreMatchers (syntax : Syntax) (options : Options) (texts : List Text)
    (matchers : List Matcher) : Type 0 where
  pub meant : AreMeant syntax options texts (expressions_of matchers)
  pub wholes : AreAlike options.line_regexp matchers
  pub readable : All (IsReadable syntax options.ignore_case) texts
  pub counted : length matchers ≡ length texts

-- no matcher may keep more than this number of entries
abbrev pub KeepAtMost : ℕ → List Matcher → Type 0
KeepAtMost most matchers = All (λ room. room ≤ most) (map room_of matchers)
