-- Interval expressions of the standard alone (XBD 9.3.6 item 5, 9.4.6 item 5): as in Intervals,
-- without the form that has no least number. The law that what the standard defines keeps its
-- meaning uses them; no definition rests on this.
use Rattle.std.specs.Prelude.{◌≡◌, ℕ, ◌++◌, Option, Some, None, codes}
use Rattle.{re_trees.specs.Bytes.Text, re_syntax.specs.Intervals.{IsNumber, value}}

-- `m`, `m,` or `m,n`
pub data Interval : Text → ℕ → Option ℕ → Type 0 where
  exactly : (m : Text) → IsNumber m → Interval m (value m) (Some (value m))
  at_least : (m : Text) → IsNumber m → Interval (m ++ codes ",") (value m) None
  between : (m n : Text) → IsNumber m → IsNumber n →
      Interval (m ++ codes "," ++ n) (value m) (Some (value n))

-- the text begins with no interval that this closes
pub record HasNoInterval (close t : Text) : Type 0 where
  pub none : (inside u : Text) (least : ℕ) (most : Option ℕ) → Interval inside least most →
      t ≡ inside ++ (close ++ u) → ⊥
