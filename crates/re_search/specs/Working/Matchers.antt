-- The expression of a matcher of any kind, the entries of its cache, and how its steps are counted.
use Rattle.std.specs.Prelude.{◌≡◌, ℕ, ◌+◌, Bool, true, false, All, List, [], length, map}
use Rattle.re_syntax.specs.{Bytes.Text, Expression.Expression, Working.Trees.expression_of}
use Rattle.{re_auto.specs.Meters.Steps, re_search.specs.declared.matcher.Matcher.Matcher}
use Rattle.re_match.specs.Working.Strings.{matched_strings, CountsLook}
use Rattle.re_match.specs.Working.{CachedMatchers.AnswersLine, Same.SameMatcher}
use Rattle.re_search.specs.declared.matcher.Matcher.TheVariants as m

-- the expression that a matcher looks for
abbrev pub matched_expression : Matcher → Expression
matched_expression (m.Strings strings) = matched_strings strings
matched_expression (m.Cached matcher) = expression_of matcher.value.tree

-- the expressions that matchers look for
abbrev pub expressions_of : List Matcher → List Expression
expressions_of = map matched_expression

-- whether the whole line has to be matched
abbrev pub wants_whole : Matcher → Bool
wants_whole (m.Strings strings) = strings.whole
wants_whole (m.Cached matcher) = matcher.value.whole

-- all give this answer to that
abbrev pub AreAlike : Bool → List Matcher → Type 0
AreAlike whole matchers = All (λ w. w ≡ whole) (map wants_whole matchers)

-- whether it looks for a string
abbrev pub is_fixed : Matcher → Bool
is_fixed (m.Strings strings) = true
is_fixed (m.Cached matcher) = false

-- the entries of its cache, and how many it may have (none without a cache)
abbrev pub entries_of : Matcher → List (ℕ × ℕ)
entries_of (m.Strings strings) = []
entries_of (m.Cached matcher) = matcher.value.cache.entries

abbrev pub room_of : Matcher → ℕ
room_of (m.Strings strings) = 0
room_of (m.Cached matcher) = matcher.value.most

-- no search changes its expression, whether it wants whole lines, and how many entries it may have
abbrev pub IsSame : Matcher → Matcher → Type 0
IsSame = SameMatcher matched_expression wants_whole room_of

-- nor of each of several in the same order
pub record AreSame (old new : List Matcher) : Type 0 where
  pub same_expressions : expressions_of new ≡ expressions_of old
  pub same_wholes : map wants_whole new ≡ map wants_whole old
  pub same_rooms : map room_of new ≡ map room_of old

-- how the steps of a search are counted: for strings exactly, with a cache by what it knew
abbrev pub CountsSteps : Text → Matcher → Steps → Matcher → Steps → Bool → Type 0
CountsSteps line (m.Strings strings) before new after answer = CountsLook strings line (length line + 1) before after
CountsSteps line (m.Cached old) before (m.Cached new) after answer =
    AnswersLine (expression_of old.value.tree) old.value.whole line old.value.cache new.value.cache before after answer
CountsSteps line (m.Cached old) before (m.Strings new) after answer = ⊥
