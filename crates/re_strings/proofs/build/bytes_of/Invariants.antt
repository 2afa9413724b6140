use Rattle.re_strings.proofs.Prelude.{◌≡◌, ℕ, ◌<◌, length, slice_index, branch_at}
use Rattle.re_strings.proofs.build.bytes_of.Given as goal

abbrev pub invariant-places : goal.invariant-places
invariant-places l = record {
  all : length l.bytes.items ≡ l.place;
  each : (n : ℕ) → n < l.place → slice_index l.bytes.items n ≡ (branch_at l.branches n).byte;
}
