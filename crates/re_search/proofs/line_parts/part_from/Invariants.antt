use Rattle.re_search.proofs.Prelude.{ℕ, ◌+◌, ◌≤◌, ◌-◌, length, Text, IsFound, Sought, AreEnds}
use Rattle.re_search.proofs.line_parts.part_from.Given as goal

-- no part begins at the places that were passed
abbrev pub invariant-places : goal.invariant-places
invariant-places l = record {
  on : l.fn.from ≤ l.first + l.place;
  later : (sought : Sought) (line : Text) (seen : ℕ) → l.first + length l.ends ≤ seen → AreEnds sought line l.fn.from seen l.first l.ends → (i j : ℕ) → IsFound sought.expressions line sought.whole l.fn.from i j → l.first + l.place ≤ i;
}

abbrev pub decreases-places : goal.decreases-places
decreases-places l = length l.ends - l.place
