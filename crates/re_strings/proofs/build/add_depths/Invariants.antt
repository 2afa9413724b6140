use Rattle.re_strings.proofs.Prelude.{◌≡◌, ℕ, ◌<◌, ◌≤◌, ◌-◌, length, slice_index}
use Rattle.re_strings.proofs.build.add_depths.Given as goal

abbrev pub invariant-nodes : goal.invariant-nodes
invariant-nodes l = record {
  high : length l.depths.items ≤ l.end;
  long : length l.fn.depths.items ≤ length l.depths.items;
  same : (n : ℕ) → n < length l.fn.depths.items → slice_index l.depths.items n ≡ slice_index l.fn.depths.items n;
  added : (n : ℕ) → length l.fn.depths.items ≤ n → n < length l.depths.items → slice_index l.depths.items n ≡ l.depth;
}

abbrev pub decreases-nodes : goal.decreases-nodes
decreases-nodes l = l.end - length l.depths.items
