use Rattle.re_ends.proofs.Prelude.{◌≡◌, ℕ, ◌<◌, slice_index}
use Rattle.re_ends.proofs.table.first_of.Given as goal

abbrev pub invariant-places : goal.invariant-places
invariant-places l = (i : ℕ) → i < l.k → slice_index l.ends i ≡ 0
