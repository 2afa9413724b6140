use Rattle.re_strings.proofs.Prelude.{◌≡◌, ℕ, ◌<◌, ◌≤◌, length, slice_index, Labels, IsTrieOf}
use Rattle.re_strings.proofs.build.depths_of.Given as goal

abbrev pub invariant-nodes : goal.invariant-nodes
invariant-nodes l = record {
  all : length l.depths.items ≡ slice_index l.trie.first.items l.node;
  small : (n : ℕ) → n < length l.depths.items → slice_index l.depths.items n ≤ n;
  right : (all : Labels) → IsTrieOf all l.trie.first.items l.trie.bytes.items → (n : ℕ) → n < length l.depths.items → slice_index l.depths.items n ≡ length (all.label n);
}
