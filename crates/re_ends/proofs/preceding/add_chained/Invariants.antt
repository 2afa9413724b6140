use Rattle.re_ends.proofs.Prelude.{◌≡◌, ℕ, suc, ◌<◌, ◌↔◌, length, Has, row_of}
use Rattle.re_ends.proofs.preceding.add_chained.Given as goal

-- those that are added are right
abbrev pub invariant-positions : goal.invariant-positions
invariant-positions l = record {
  len : length l.chained ≡ length l.fn.chained;
  right : (q p : ℕ) → Has l.chained q → (q < length l.ranges) × (Has (row_of l.rows (length l.fn.chained) q) p ↔ (suc p ≡ q));
}
