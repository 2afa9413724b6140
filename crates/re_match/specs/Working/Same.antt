-- What no search changes of a matcher.
use Rattle.std.specs.Prelude.{◌≡◌, ℕ, Bool}
use Rattle.re_trees.specs.Expression.{Expression}

-- it has its expression as before, asks for whole lines or not as before, and may keep as much as
-- before
pub record SameMatcher {M : Type 0} (expression : M → Expression) (whole : M → Bool)
    (room : M → ℕ) (old new : M) : Type 0 where
  pub same_expression : expression new ≡ expression old
  pub same_whole : whole new ≡ whole old
  pub same_room : room new ≡ room old
