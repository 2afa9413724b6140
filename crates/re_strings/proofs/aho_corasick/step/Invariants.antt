use Rattle.re_strings.proofs.Prelude.{ℕ, ◌<◌, ◌≤◌, length, Text, Labels, IsTrieOf, AreFallbacksOf, MayStandFor}
use Rattle.re_strings.proofs.aho_corasick.step.Given as goal

abbrev pub invariant-nodes : goal.invariant-nodes
invariant-nodes l = record {
  within : l.at < length l.fails;
  low : l.at ≤ l.node;
  may : (all : Labels) → IsTrieOf all l.trie.first.items l.trie.bytes.items → AreFallbacksOf all l.fails
      → (w : Text) (from : ℕ) → MayStandFor all.strings (all.label l.node) w l.byte from → MayStandFor all.strings (all.label l.at) w l.byte from;
}

abbrev pub decreases-nodes : goal.decreases-nodes
decreases-nodes l = l.at
