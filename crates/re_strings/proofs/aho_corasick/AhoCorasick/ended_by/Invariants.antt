use Rattle.re_strings.proofs.Prelude.{ℕ, ◌<◌, ◌≤◌, ◌-◌, length, Labels, IsTableOf, Occurs, StandsSince, keys}
use Rattle.re_strings.proofs.aho_corasick.AhoCorasick.ended_by.Given as goal

abbrev pub invariant-places : goal.invariant-places
invariant-places l = record {
  within : l.place ≤ length l.line;
  in_trie : l.node < length l.self.trie.bytes.items;
  stands : (all : Labels) → IsTableOf all l.self → StandsSince all 0 (keys l.self.fold l.line) l.place l.node;
  none : (all : Labels) → IsTableOf all l.self → (i j : ℕ) → j ≤ l.place → ¬ Occurs all.strings 0 (keys l.self.fold l.line) i j;
}

abbrev pub decreases-places : goal.decreases-places
decreases-places l = length l.line - l.place
