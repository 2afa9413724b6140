use Rattle.re_strings.proofs.Prelude.{◌+◌, ◌≤◌, ◌-◌, length, slice_index, Labels, IsTrieOf, AreStepsOf, AreOwn, AreLinked, AreLinkedFor}
use Rattle.re_strings.proofs.links.link_children.Given as goal

abbrev pub invariant-children : goal.invariant-children
invariant-children l = record {
  low : slice_index l.trie.first.items l.node ≤ length l.links.fails.items;
  high : length l.links.fails.items ≤ slice_index l.trie.first.items (l.node + 1);
  linked : AreLinked (length l.links.fails.items) l.links.fails.items l.links.outputs.items;
  right : (all : Labels) → IsTrieOf all l.trie.first.items l.trie.bytes.items → AreStepsOf all l.starts → AreOwn all l.owns
      → AreLinkedFor all l.fn.links.fails.items l.fn.links.outputs.items → AreLinkedFor all l.links.fails.items l.links.outputs.items;
}

abbrev pub decreases-children : goal.decreases-children
decreases-children l = slice_index l.trie.first.items (l.node + 1) - length l.links.fails.items
