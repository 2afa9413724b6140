-- For each position of an expression, those that can come directly before it.
use Rattle.std.specs.Prelude.{◌≡◌, ◌↔◌, suc, ℕ, length}
use Rattle.re_trees.specs.{Expression.Expression, Holds.positions}
use Rattle.re_auto.specs.Working.{Tables.words_for, Ranges.CoverRows, Positions.part_of}
use Rattle.re_auto.specs.Working.Bits.{RowsAre, Has}
use Rattle.re_ends.specs.declared.preceding.Preceding.{Preceding}

-- The row of each position is the set of those that it can follow. A chained position can follow the
-- one right before it, and no other.
pub record ArePrecedingFor (e : Expression) (p : Preceding) : Type 0 where
  pub width : p.width ≡ words_for (positions e)
  pub rows : RowsAre p.rows.items (λ q r. (part_of e 0).follow r q) (positions e) p.width
  pub chained : (length p.chained.items ≡ p.width) ×
      ((q r : ℕ) → Has p.chained.items q → (part_of e 0).follow r q ↔ (suc r ≡ q))
  pub ranges : CoverRows p.ranges.items p.rows.items (positions e) p.width
