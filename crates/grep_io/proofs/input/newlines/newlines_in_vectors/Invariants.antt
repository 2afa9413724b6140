use Rattle.grep_io.proofs.Prelude.{◌≡◌, ◌+◌, ◌*◌, ◌≤◌, length, Each1, sum_l, is_byte, places_between, newline}
use Rattle.grep_io.proofs.input.newlines.newlines_in_vectors.Given as goal

abbrev pub invariant-vectors : goal.invariant-vectors
invariant-vectors l = record {
  few : Each1 (λ a. a ≤ l.place) l.counts;
  counted : sum_l l.counts ≡ length (places_between (is_byte newline) l.bytes l.from (l.from + 64 * l.place));
}
