use Rattle.re_strings.proofs.Prelude.{slice_index, Labels, IsTrieOf, AreStepsOf, AreOwn, AreLinked, AreLinkedFor}
use Rattle.re_strings.proofs.links.links_of.Given as goal

abbrev pub invariant-nodes : goal.invariant-nodes
invariant-nodes l = record {
  linked : AreLinked (slice_index l.trie.first.items l.node) l.links.fails.items l.links.outputs.items;
  right : (all : Labels) → IsTrieOf all l.trie.first.items l.trie.bytes.items → AreStepsOf all l.starts → AreOwn all l.owns → AreLinkedFor all l.links.fails.items l.links.outputs.items;
}
