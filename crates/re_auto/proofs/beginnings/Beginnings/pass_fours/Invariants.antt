use Rattle.re_auto.proofs.Prelude.{ℕ, ◌<◌, ◌≤◌, ◌-◌, length, slice_index, IsMarked}
use Rattle.re_auto.proofs.beginnings.Beginnings.pass_fours.Given as goal

abbrev pub invariant-fours : goal.invariant-fours
invariant-fours l = record { low : l.fn.place ≤ l.next; high : l.next ≤ length l.line; passed : (k : ℕ) → l.fn.place ≤ k → k < l.next → ¬ IsMarked l.self (slice_index l.line k) }

abbrev pub decreases-fours : goal.decreases-fours
decreases-fours l = length l.line - l.next
