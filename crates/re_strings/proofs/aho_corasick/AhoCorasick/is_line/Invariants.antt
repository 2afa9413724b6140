use Rattle.re_strings.proofs.Prelude.{◌≡◌, ◌<◌, length, take, Labels, IsTableOf, keys}
use Rattle.re_strings.proofs.aho_corasick.AhoCorasick.is_line.Given as goal

abbrev pub invariant-places : goal.invariant-places
invariant-places l = record {
  in_trie : l.node < length l.self.trie.bytes.items;
  read : (all : Labels) → IsTableOf all l.self → all.label l.node ≡ take l.place (keys l.self.fold l.line);
}
