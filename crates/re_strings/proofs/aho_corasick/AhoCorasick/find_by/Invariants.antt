use Rattle.re_strings.proofs.{Prelude.{◌≡◌, ◌<◌, ◌≤◌, ◌-◌, length, Labels, IsTableOf, StandsSince, IsBestOccurrence, keys}, lemmas.SetReached.IsBegun}
use Rattle.re_strings.proofs.aho_corasick.AhoCorasick.find_by.Given as goal

abbrev pub invariant-places : goal.invariant-places
invariant-places l = record {
  after : l.from ≤ l.place;
  within : l.place ≤ length l.line;
  in_trie : l.node < length l.self.trie.bytes.items;
  stands : (all : Labels) → IsTableOf all l.self → StandsSince all l.from (keys l.self.fold l.line) l.place l.node;
  best : (all : Labels) → IsTableOf all l.self → IsBestOccurrence all.strings l.from (keys l.self.fold l.line) l.place l.best;
  begun : (all : Labels) → IsTableOf all l.self → IsBegun all l.from (keys l.self.fold l.line) l.place l.node l.best;
  uncounted : l.meter ≡ l.fn.meter;
}

abbrev pub decreases-places : goal.decreases-places
decreases-places l = length l.line - l.place
