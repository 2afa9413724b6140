use Rattle.re_auto.proofs.Prelude.{◌≡◌, ℕ, length, Some, slice_get, WordRange, row_of, Covers}
use Rattle.re_auto.proofs.ranges.ranges_of.Given as goal

abbrev pub invariant-rows : goal.invariant-rows
invariant-rows l =
    (length l.ranges.items ≡ l.r)
    × ((r : ℕ) (range : WordRange) → slice_get l.ranges.items r ≡ Some range → Covers range (row_of l.table l.width r))
