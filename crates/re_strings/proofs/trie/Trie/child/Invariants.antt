use Rattle.re_strings.proofs.Prelude.{◌≡◌, ℕ, ◌<◌, ◌≤◌, slice_index}
use Rattle.re_strings.proofs.trie.Trie.child.Given as goal

abbrev pub invariant-children : goal.invariant-children
invariant-children l = (m : ℕ) → l.from ≤ m → m < l.child → slice_index l.self.bytes.items m ≡ l.byte → ⊥
