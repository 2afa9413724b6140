-- Strings, and choices of runs of sets, that each stretch on which an expression holds contains.
use Rattle.std.specs.Prelude.{◌⊎◌, false, IfSome, List, ◌+◌, ℕ, ◌≤◌, Any, IsTrue, Bool, ⊤, true}
use Rattle.std.specs.Prelude.{◌≡◌, length, All, Option}
use Rattle.re_trees.specs.{Holds.Holds, Expression.{Expression, begin, cat_more, alt_more, repeat}}
use Rattle.{re_trees.specs.Bytes.{Text, Bytes}, memchr.specs.Find.OccursAt}
use Rattle.{re_needle.specs.declared.needle.Needle.Needle, re_runs.specs.Working.Finders.runs_of}
use Rattle.re_runs.specs.Working.Runs.{Runs, one_run, IsNoWider, RunIsAt, RunStandsAt, LacksRun}
use Rattle.re_runs.specs.Working.Runs.{BeginsWithout}

-- the text is in the line between the places i and j
abbrev pub StandsBetween : Text → Text → ℕ → ℕ → Type 0
StandsBetween line text i j = (k : ℕ) × (i ≤ k) × (k + length text ≤ j) × OccursAt line text k

-- it is there wherever the expression holds from i to j
abbrev pub IsNeeded : Text → Expression → Type 0
IsNeeded text e =
    (line : Text) (i j : ℕ) → j ≤ length line → Holds line e i j → StandsBetween line text i j

-- the same for a choice of runs
abbrev pub RunStandsBetween : Text → Runs → ℕ → ℕ → Type 0
RunStandsBetween line runs i j =
    (k : ℕ) × (i ≤ k) × Any (λ run. RunIsAt line k run × (k + length run ≤ j)) runs

abbrev pub RunIsNeeded : Runs → Expression → Type 0
RunIsNeeded runs e =
    (line : Text) (i j : ℕ) → j ≤ length line → Holds line e i j → RunStandsBetween line runs i j

-- the expression holds wherever one of the runs is
abbrev pub RunSuffices : Runs → Expression → Type 0
RunSuffices runs e =
    (line : Text) (k : ℕ) → All (λ run. RunIsAt line k run → Holds line e k (k + length run)) runs

-- it holds exactly where one of the runs is
pub record IsJustRun (runs : Runs) (e : Expression) : Type 0 where
  pub stands : (line : Text) (i j : ℕ) → j ≤ length line → Holds line e i j →
      Any (λ run. RunIsAt line i run × (j ≡ i + length run)) runs
  pub holds : RunSuffices runs e

-- each stretch on which the expression holds begins with one of the runs
abbrev pub RunBegins : Runs → Expression → Type 0
RunBegins runs e =
    (line : Text) (i j : ℕ) → j ≤ length line → Holds line e i j → RunStandsAt line runs i

-- no `^` is in it: whether it holds doesn't depend on where the line begins
abbrev pub HasNoBegin : Expression → Type 0
HasNoBegin begin = ⊥
HasNoBegin (cat_more e rest) = HasNoBegin e × HasNoBegin rest
HasNoBegin (alt_more e rest) = HasNoBegin e × HasNoBegin rest
HasNoBegin (repeat e least most) = HasNoBegin e
HasNoBegin e = ⊤

-- The expression needs one of the runs. If the needle says that they are first, each match begins with
-- one. If the needle says that they are all, the expression holds exactly where one is; if it says
-- that one suffices, wherever one is.
pub record IsNeedleOf (e : Expression) (needle : Needle) : Type 0 where
  pub needed : RunIsNeeded (runs_of needle.finder) e
  pub some : IsNoWider 1 (runs_of needle.finder)
  pub first : IsTrue needle.is_first → RunBegins (runs_of needle.finder) e
  pub all : IsTrue needle.is_all → IsJustRun (runs_of needle.finder) e
  pub enough : IsTrue needle.suffices → RunSuffices (runs_of needle.finder) e

-- the same for a needle, if there is one
abbrev pub IsNeedleFor : Expression → Option Needle → Type 0
IsNeedleFor e needle = IfSome needle (λ n. IsNeedleOf e n)

-- and it looks for one run
abbrev pub IsRunNeedleFor : Expression → Option Needle → Type 0
IsRunNeedleFor e needle =
    IfSome needle (λ n. IsNeedleOf e n × (run : List Bytes) × (runs_of n.finder ≡ one_run run))

-- a search has its answer without a step: the line lacks a run of sets that every match has in it;
-- or it has to be matched as a whole, and does not begin with a run that every match begins with;
-- or it has a run that suffices
pub record LacksNeeded (e : Expression) (line : Text) (answer : Bool) : Type 0 where
  pub runs : Runs
  pub needed : RunIsNeeded runs e
  pub absent : LacksRun runs line
  pub no : answer ≡ false

pub record LacksFirst (e : Expression) (whole : Bool) (line : Text) (answer : Bool) : Type 0 where
  pub runs : Runs
  pub begins : RunBegins runs e
  pub all : whole ≡ true
  pub absent : BeginsWithout runs line
  pub no : answer ≡ false

pub record HasEnough (e : Expression) (whole : Bool) (line : Text) (answer : Bool) : Type 0 where
  pub runs : Runs
  pub enough : RunSuffices runs e
  pub any : whole ≡ false
  pub place : ℕ
  pub stands : RunStandsAt line runs place
  pub yes : answer ≡ true

abbrev pub IsSettled : Expression → Bool → Text → Bool → Type 0
IsSettled e whole line answer =
    LacksNeeded e line answer ⊎ (LacksFirst e whole line answer ⊎ HasEnough e whole line answer)
