-- A run of each branch of a choice, which may have parts before and after it.
use Rattle.std.specs.{Prelude.{Bool, IsTrue, List, ◌++◌, ◌∷◌, map}, List.AllZip}
use Rattle.re_trees.specs.{declared.tree.Tree.Tree, Working.Trees.expression_of, Bytes.Bytes}
use Rattle.re_trees.specs.Expression.{cat, alt, Expression}
use Rattle.re_needle.specs.Working.Needles.{RunIsNeeded, RunBegins, RunSuffices, IsJustRun}
use Rattle.re_needle.specs.declared.choice_needle.BranchRuns.{BranchRuns}
use Rattle.re_runs.specs.Working.Runs.{one_run, sets_of_each}

-- the branch needs the run; each of its matches begins with it if `first` is set, and is just it if
-- `all` is; if `enough` is, it holds wherever the run is
pub record IsRunOf (first all enough : Bool) (run : List Bytes) (e : Expression) : Type 0 where
  pub needed : RunIsNeeded (one_run run) e
  pub begins : IsTrue first → RunBegins (one_run run) e
  pub just : IsTrue all → IsJustRun (one_run run) e
  pub suffices : IsTrue enough → RunSuffices (one_run run) e

-- so it is for each branch and its run
abbrev pub AreRunsOf : List Expression → BranchRuns → Type 0
AreRunsOf es found =
    AllZip (IsRunOf found.are_first found.are_all found.suffice) (sets_of_each found.runs.items) es

-- a branch between parts, and a choice there
abbrev pub branch_within : List Tree → Expression → List Tree → Expression
branch_within before e after = cat (map expression_of before ++ e ∷ map expression_of after)

abbrev pub branches_within : List Tree → List Tree → List Tree → List Expression
branches_within before branches after =
    map (λ branch. branch_within before (expression_of branch) after) branches

abbrev pub choice_within : List Tree → List Tree → List Tree → Expression
choice_within before branches after = branch_within before (alt (map expression_of branches)) after
