use Rattle.re_strings.proofs.Prelude.{◌≡◌, ℕ, ◌+◌, ◌<◌, ◌≤◌, length, map, slice_index, text_at, pair_row}
use Rattle.re_strings.proofs.leaps.leaps_of.Given as goal

abbrev pub invariant-strings : goal.invariant-strings
invariant-strings l = record {
  full : length l.shifts.items ≡ 32896;
  short : (n : ℕ) → n < 32896 → slice_index l.shifts.items n ≤ l.longest;
  right : (i : ℕ) → i < l.place → (j : ℕ) → j + 2 ≤ l.window
      → slice_index l.shifts.items (pair_row (slice_index (text_at (map (λ s. s.now) l.strings) i) j) (slice_index (text_at (map (λ s. s.now) l.strings) i) (j + 1))) + j + 2 ≤ l.window;
}
