-- Where an expression holds on a line: from place i to place j. Places run from 0 to the line's
-- length (XBD 9.1, 9.3.6, 9.3.8).
use Rattle.std.specs.Prelude.{◌≡◌, ℕ, zero, suc, ◌+◌, ◌*◌, max, ◌≤◌, ◌⊎◌, Bool, true, false, length}
use Rattle.std.specs.Prelude.{Option, Some, None, slice_get, IsTrue, IfSome}
use Rattle.re_trees.specs.Expression.{Expression, empty, one_of, none_of, begin, end, cat_none}
use Rattle.re_trees.specs.{Expression.{cat_more, alt_none, alt_more, repeat}, Bytes.{Text, closed}}

-- cuts split the stretch from i to j into the given number of turns, and P holds on each
abbrev pub Turns : (ℕ → ℕ → Type 0) → ℕ → ℕ → ℕ → Type 0
Turns P zero i j = i ≡ j
Turns P (suc n) i j = (k : ℕ) × P i k × Turns P n k j

abbrev pub IsWithin : ℕ → Option ℕ → ℕ → Type 0
IsWithin least most n = (least ≤ n) × IfSome most (λ top. n ≤ top)

abbrev pub Holds : Text → Expression → ℕ → ℕ → Type 0
Holds line empty i j = i ≡ j
Holds line (one_of s) i j = (b : ℕ) × (slice_get line i ≡ Some b) × IsTrue (s b) × (j ≡ i + 1)
Holds line (none_of s) i j = (b : ℕ) × (slice_get line i ≡ Some b) × (¬ IsTrue (s b)) × (j ≡ i + 1)
Holds line begin i j = (i ≡ 0) × (j ≡ 0)
Holds line end i j = (i ≡ length line) × (j ≡ length line)
Holds line cat_none i j = i ≡ j
Holds line (cat_more e rest) i j = (k : ℕ) × Holds line e i k × Holds line rest k j
Holds line alt_none i j = ⊥
Holds line (alt_more e rest) i j = Holds line e i j ⊎ Holds line rest i j
Holds line (repeat e least most) i j = (n : ℕ) × IsWithin least most n × Turns (Holds line e) n i j

-- some stretch of the line is matched; under `whole`, the whole line is matched
abbrev pub Matches : Expression → Text → Bool → Type 0
Matches e line false = (i j : ℕ) × (j ≤ length line) × Holds line e i j
Matches e line true = Holds line e 0 (length line)

-- each set closed under case; a complement is taken after that
abbrev pub folded : Expression → Expression
folded (one_of s) = one_of (closed s)
folded (none_of s) = none_of (closed s)
folded (cat_more e rest) = cat_more (folded e) (folded rest)
folded (alt_more e rest) = alt_more (folded e) (folded rest)
folded (repeat e least most) = repeat (folded e) least most
folded e = e

-- how often the expression is written out, where intervals are expanded
abbrev pub copies : ℕ → Option ℕ → ℕ
copies least (Some most) = most
copies least None = max least 1

-- the number of bytes that the expression names, once intervals are expanded
abbrev pub positions : Expression → ℕ
positions (one_of s) = 1
positions (none_of s) = 1
positions (cat_more e rest) = positions e + positions rest
positions (alt_more e rest) = positions e + positions rest
positions (repeat e least most) = copies least most * positions e
positions e = 0
