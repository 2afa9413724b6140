-- What the positions of an expression say, and what stepping over a line keeps.
use Rattle.std.specs.Prelude.{ℕ, ◌↔◌, ◌++◌, Bool, IsTrue, length}
use Rattle.re_trees.specs.{Expression.Expression, Bytes.Text, Holds.Holds}
use Rattle.re_auto.specs.Working.{Positions.{PartHolds, part_of}, SteppedSets.IsAfter}
use Rattle.re_auto.specs.declared.mode.Mode.{Mode}

-- An expression holds on a stretch exactly where a chain of its positions reads the stretch's
-- bytes, or where the stretch is empty and the expression may be.
abbrev pub PositionsDecide : Type 0
PositionsDecide =
    (e : Expression) (n : ℕ) (line : Text) (i j : ℕ) →
    Holds line e i j ↔ PartHolds (part_of e n) line i j

-- A set of positions is right after a front of a line exactly if it is right after that front
-- alone: it depends only on the bytes read so far.
abbrev pub FrontsDecide : Type 0
FrontsDecide =
    (e : Expression) (n : ℕ) (mode : Mode) (front rest : Text) (S : ℕ → Bool)
    → IsAfter (part_of e n) mode front (length front) (λ q. IsTrue (S q)) ↔
    IsAfter (part_of e n) mode (front ++ rest) (length front) (λ q. IsTrue (S q))
