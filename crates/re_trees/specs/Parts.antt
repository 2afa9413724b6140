-- The parts of a line that are matched. Each is the earliest match, and the longest of those that
-- begin there (XBD 9.1; GNU grep, option -o).
use Rattle.std.specs.{Prelude.{◌≡◌, ℕ, ◌<◌, ◌≤◌, Bool, List, [], ◌∷◌, length, Any}, Bool.OnTrue}
use Rattle.re_trees.specs.{Bytes.Text, Expression.Expression, Holds.Holds}

module _ (expressions : List Expression) (line : Text) (whole : Bool) where
  -- some expression holds on the stretch from i to j, which is not empty and begins at `from` or
  -- later
  pub record IsFound (from i j : ℕ) : Type 0 where
    pub begins : from ≤ i
    pub not_empty : i < j
    pub on_line : j ≤ length line
    pub is_whole : OnTrue whole ((i ≡ 0) × (j ≡ length line))
    pub holds : Any (λ e. Holds line e i j) expressions

  -- the earliest stretch found, and the longest of those that begin there
  pub record IsPart (from i j : ℕ) : Type 0 where
    pub found : IsFound from i j
    pub earliest : (k l : ℕ) → IsFound from k l → i ≤ k
    pub longest : (l : ℕ) → IsFound from i l → l ≤ j

  -- the parts in order, each searched from the end of the one before, until there is none
  abbrev pub ArePartsFrom : ℕ → List (ℕ × ℕ) → Type 0
  ArePartsFrom from [] = (i j : ℕ) → ¬ IsFound from i j
  ArePartsFrom from ((i, j) ∷ rest) = IsPart from i j × ArePartsFrom j rest

  abbrev pub AreParts : List (ℕ × ℕ) → Type 0
  AreParts = ArePartsFrom 0
