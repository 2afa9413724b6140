use Rattle.re_strings.proofs.{Prelude.{◌<◌, length, AddsEnds, Labels, IsTableOf, StandsAtNode, keys}, lemmas.SetEnds.OccursBy}
use Rattle.re_strings.proofs.aho_corasick.AhoCorasick.add_ends.Given as goal

abbrev pub invariant-places : goal.invariant-places
invariant-places l = record {
  in_trie : l.node < length l.self.trie.bytes.items;
  stands : (all : Labels) → IsTableOf all l.self → StandsAtNode all 0 (keys l.self.fold l.line) l.place l.node;
  added : (all : Labels) → IsTableOf all l.self → AddsEnds (OccursBy all l.start (keys l.self.fold l.line) l.place) l.line l.fn.ends l.ends;
}
