-- What C keeps of patterns.
use Rattle.std.specs.Prelude.{◌≡◌, ℕ, ◌+◌, ◌*◌, ◌≤◌, ◌⊎◌, Bool, true, List, length}
use Rattle.{re_syntax.specs.Expression.Expression, re_search.specs.declared.matcher.Matcher.Matcher}
use Rattle.re_search.specs.Working.{Matchers.expressions_of, Sought.{Sought, sought_of}}
use Rattle.grep_core.specs.Working.SameChoice.{IsSameChoice}

-- matchers, whether the whole line has to be matched, whether each pattern has its own, and the
-- limit of a call's work, or 0
pub record Kept : Type 0 where
  pub matchers : List Matcher
  pub whole : Bool
  pub apart : Bool
  pub limit : ℕ

abbrev pub expressions_in : Kept → List Expression
expressions_in kept = expressions_of kept.matchers

-- what they search for
abbrev pub sought_in : Kept → Sought
sought_in kept = sought_of kept.whole kept.matchers

-- whether patterns are apart, the number of matchers that are made of them, and their limit
pub record Terms : Type 0 where
  pub apart : Bool
  pub matchers : ℕ
  pub limit : ℕ

abbrev pub terms_of : Kept → Terms
terms_of kept =
    record { apart = kept.apart; matchers = length (expressions_in kept); limit = kept.limit }

-- so many bytes may be searched in a call: there are none, or the steps are within the limit
abbrev pub Allows : Terms → ℕ → Type 0
Allows t bytes = (t.limit ≡ 0) ⊎ ((bytes ≡ 0) ⊎ (t.matchers * (bytes + 1) ≤ t.limit))

-- a search for the one is a search for the other: the expressions are the same choice, and no more;
-- where they are apart they are the same
pub record Serves (apart : Bool) (asked sought : Sought) : Type 0 where
  pub same : IsSameChoice asked.expressions sought.expressions
  pub fewer : length asked.expressions ≤ length sought.expressions
  pub whole : asked.whole ≡ sought.whole
  pub each : apart ≡ true → asked.expressions ≡ sought.expressions
