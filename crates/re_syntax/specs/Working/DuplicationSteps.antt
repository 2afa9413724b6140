-- Duplications at a place of a text. Each syntax says which texts are duplications.
use Rattle.std.specs.Prelude.{◌≡◌, ℕ, ◌≤◌, ◌++◌, length, drop, Option}
use Rattle.{re_syntax.specs.declared.interval.Counts.Counts, re_trees.specs.Bytes.Text}

-- a duplication goes from one place up to another
pub record HasOne (IsDuplication : Text → ℕ → Option ℕ → Type 0) (text : Text) (at : ℕ)
    (counts : Counts) (beyond : ℕ) : Type 0 where
  pub within : beyond ≤ length text
  pub bytes : Text
  pub duplication : IsDuplication bytes counts.least counts.most
  pub front : drop at text ≡ bytes ++ drop beyond text
