use Rattle.re_strings.proofs.Prelude.{◌≡◌, ℕ, ◌<◌, length, slice_index, map, branch_at, own_length}
use Rattle.re_strings.proofs.build.owns_of.Given as goal

abbrev pub invariant-places : goal.invariant-places
invariant-places l = record {
  all : length l.owns.items ≡ l.place;
  each : (n : ℕ) → n < l.place → slice_index l.owns.items n ≡ own_length (map (λ s. s.now) l.strings) (branch_at l.branches n);
}
