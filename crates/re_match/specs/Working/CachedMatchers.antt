-- Matchers that keep the steps between sets of positions.
use Rattle.std.specs.Prelude.{◌≡◌, ◌⊎◌, Bool, ℕ, Option, None, Some, []}
use Rattle.re_trees.specs.{Bytes.Text, Expression.Expression, declared.tree.Tree.Tree}
use Rattle.re_auto.specs.{Meters.Steps, Working.StateSets.IsMadeFor}
use Rattle.re_steps.specs.Working.{Stages.{Cache, Searches, mode_for}, Rows.{IsKnownFor, cache_of}}
use Rattle.re_steps.specs.declared.table.StepTable.{StepTable}
use Rattle.{re_match.specs.Working.Sweeps.LooksOver, re_needle.specs.Working.Needles.IsSettled}

-- the expression's tree, whether the whole line has to be matched (XCU grep, option -x), the cache,
-- and how many entries it may have
pub record CachedMatcher : Type 0 where
  pub tree : Tree
  pub whole : Bool
  pub cache : Cache
  pub most : ℕ

-- the cache of a matcher that has no table yet
abbrev pub no_cache : Cache
no_cache = record { classes = []; stride = 0; sets = []; entries = [] }

-- the cache in a table, if there is one
abbrev pub cache_in : Option StepTable → Cache
cache_in None = no_cache
cache_in (Some table) = cache_of table

-- what the table knows is right for the expression and the mode, and it may have so many entries
abbrev pub IsTableFor : Expression → Bool → ℕ → StepTable → Type 0
IsTableFor e whole most table =
    IsMadeFor e table.scratch × IsKnownFor e (mode_for whole) table × (table.pairs.most ≡ most)

-- the answer was known without a step
pub record SaysAtOnce (e : Expression) (whole : Bool) (line : Text) (old new : Cache)
    (before after : Steps) (answer : Bool) : Type 0 where
  pub settled : IsSettled e whole line answer
  pub cache : new ≡ old
  pub steps : after ≡ before

-- the line was looked over once or not at all, and then the answer was known, or a search found it
pub record AnswersLine (e : Expression) (whole : Bool) (line : Text) (old new : Cache)
    (before after : Steps) (answer : Bool) : Type 0 where
  pub said : Option Bool
  pub looked : Steps
  pub looks : LooksOver e line said before looked
  pub answers : ((said ≡ Some answer) × SaysAtOnce e whole line old new looked after answer) ⊎
      Searches e (mode_for whole) line old new looked after answer

-- the same matcher, whose cache may have changed
pub record SameCached (old new : CachedMatcher) : Type 0 where
  pub same_tree : new.tree ≡ old.tree
  pub same_whole : new.whole ≡ old.whole
  pub same_most : new.most ≡ old.most
