use Rattle.line_finds.proofs.Prelude.{◌≡◌, ◌≤◌, set_before}
use Rattle.line_finds.proofs.found.count_set.Given as goal

-- the first marks are counted
abbrev pub invariant-loop-k : goal.invariant-loop-k
invariant-loop-k l = (l.count ≡ set_before l.k l.marks) × (l.count ≤ l.k)
