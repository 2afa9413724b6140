-- The best of the stretches that end up to a place: the one that begins earliest, and of those that
-- begin there the longest.
use Rattle.std.specs.Prelude.{ℕ, ◌≤◌, nat_le, if◌then◌else◌, Option, Some, None, nat_lt}
use Rattle.re_trees.specs.declared.span.Span.{Span}

-- i is the least number of P
abbrev pub IsLeast : (ℕ → Type 0) → ℕ → Type 0
IsLeast P i = P i × ((k : ℕ) → P k → i ≤ k)

-- the option is the least number of P, or None where there is none
abbrev pub Least : (ℕ → Type 0) → Option ℕ → Type 0
Least P (Some i) = IsLeast P i
Least P None = (k : ℕ) → ¬ P k

-- The best of the stretches in R that end at `to` or before: it begins earliest, and of those that
-- begin there it ends last.
abbrev pub IsBest : (ℕ → ℕ → Type 0) → ℕ → Option (ℕ × ℕ) → Type 0
IsBest R to None = (i j : ℕ) → j ≤ to → ¬ R i j
IsBest R to (Some (i, j)) =
    R i j × (j ≤ to)
    × ((k l : ℕ) → l ≤ to → R k l → i ≤ k)
    × ((l : ℕ) → l ≤ to → R i l → l ≤ j)

-- the best stretch so far, improved by the least start of the stretches that end at the next place
abbrev pub better : Option (ℕ × ℕ) → ℕ → Option ℕ → Option (ℕ × ℕ)
better best to None = best
better None to (Some k) = Some (k, to)
better (Some (i, j)) to (Some k) = if nat_le k i then Some (k, to) else Some (i, j)

-- a span as a pair of places
abbrev pub places : Option Span → Option (ℕ × ℕ)
places None = None
places (Some span) = Some (span.start, span.end)

-- the better of the best stretch so far and one that ends after it
abbrev pub better_span : Option Span → Span → Option Span
better_span None found = Some found
better_span (Some known) found = if nat_lt known.start found.start then Some known else Some found
