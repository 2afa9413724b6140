use Rattle.re_ends.proofs.Prelude.{◌≡◌, ℕ, ◌<◌, ◌↔◌, length, expression_of, positions, Has, row_of, part_of}
use Rattle.re_ends.proofs.preceding.turn.Given as goal

-- the positions below p are in the rows of those that they can come before
abbrev pub invariant-positions : goal.invariant-positions
invariant-positions l = record {
  only : length l.only ≡ length l.fn.only;
  len : length l.rows ≡ length l.fn.rows;
  turned : (x q : ℕ) → x < positions (expression_of l.automaton) → Has (row_of l.rows (length l.fn.only) x) q ↔ ((q < l.p) × (part_of (expression_of l.automaton) 0).follow q x);
}
