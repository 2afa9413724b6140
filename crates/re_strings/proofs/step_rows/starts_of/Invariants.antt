use Rattle.re_strings.proofs.Prelude.{ℕ, ◌≡◌, ◌<◌, ◌≤◌, ◌-◌, length, slice_index, AreClasses, Labels, IsTrieOf, StepsOn}
use Rattle.re_strings.proofs.step_rows.starts_of.Given as goal

abbrev pub invariant-classes : goal.invariant-classes
invariant-classes l = record {
  classes : AreClasses l.trie.bytes.items l.starts;
  all : length l.starts.classes.items ≡ 256;
  few : length l.starts.cells.items ≤ length l.starts.bytes.items;
  near : (k : ℕ) → k < length l.starts.cells.items → slice_index l.starts.cells.items k < slice_index l.trie.first.items 1;
  right : (all : Labels) → IsTrieOf all l.trie.first.items l.trie.bytes.items → (k : ℕ) → k < length l.starts.cells.items →
      (b : ℕ) → b < 256 → slice_index l.starts.classes.items b ≡ k → StepsOn all 0 b (slice_index l.starts.cells.items k);
}

abbrev pub decreases-classes : goal.decreases-classes
decreases-classes l = length l.starts.bytes.items - length l.starts.cells.items
