use Rattle.re_strings.proofs.{Prelude.{◌<◌, ◌≤◌, length, AddsEnds, Labels, IsTableOf}, lemmas.SetEnds.{Follows, PutsLonger}}
use Rattle.re_strings.proofs.aho_corasick.AhoCorasick.put_outputs.Given as goal

abbrev pub invariant-outputs : goal.invariant-outputs
invariant-outputs l = record {
  in_trie : l.output < length l.self.trie.bytes.items;
  follows : (all : Labels) → IsTableOf all l.self → Follows all l.node l.output;
  added : (all : Labels) → IsTableOf all l.self → length (all.label l.node) ≤ l.end → AddsEnds (PutsLonger all l.node l.end l.top l.output) l.fn.ends l.fn.ends l.ends;
}

abbrev pub decreases-outputs : goal.decreases-outputs
decreases-outputs l = l.output
