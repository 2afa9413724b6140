use Rattle.re_strings.proofs.Prelude.{◌≡◌, ℕ, ◌<◌, length, slice_index, AgreesUpTo, CommonLength}
use Rattle.re_strings.proofs.occurrences.find_own_lengths.Given as goal

abbrev pub invariant-places : goal.invariant-places
invariant-places l = record {
  size : length l.lengths ≡ length l.fn.lengths;
  window : AgreesUpTo l.text l.text l.window.left l.window.right;
  begun : l.place < l.window.right → (0 < l.window.left) × (l.window.left < l.place);
  first : 0 < l.place;
  right : (j : ℕ) → 0 < j → j < l.place → j < length l.text → CommonLength l.text l.text j (slice_index l.lengths j);
}
