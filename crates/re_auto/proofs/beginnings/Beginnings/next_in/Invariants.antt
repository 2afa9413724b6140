use Rattle.re_auto.proofs.Prelude.{ℕ, ◌<◌, ◌≤◌, ◌-◌, length, slice_index, IsMarked}
use Rattle.re_auto.proofs.beginnings.Beginnings.next_in.Given as goal

abbrev pub invariant-places : goal.invariant-places
invariant-places l = record { low : l.fn.place ≤ l.next; high : l.next ≤ length l.line; passed : (k : ℕ) → l.fn.place ≤ k → k < l.next → ¬ IsMarked l.self (slice_index l.line k) }

abbrev pub decreases-places : goal.decreases-places
decreases-places l = length l.line - l.next
