use Rattle.re_strings.proofs.Prelude.{◌≡◌, ◌-◌, length, AreClasses, Labels, IsTrieOf, AreFallbacksOf, AreSteps, AreStepsOf}
use Rattle.re_strings.proofs.step_rows.steps_of.Given as goal

abbrev pub invariant-cells : goal.invariant-cells
invariant-cells l = record {
  bytes : length l.steps.bytes.items ≡ length l.fn.starts.bytes.items;
  classes : AreClasses l.trie.bytes.items l.steps;
  steps : AreSteps l.trie.first.items l.steps;
  right : (all : Labels) → IsTrieOf all l.trie.first.items l.trie.bytes.items → AreStepsOf all l.fn.starts → AreFallbacksOf all l.fails → AreStepsOf all l.steps;
}

abbrev pub decreases-cells : goal.decreases-cells
decreases-cells l = l.end - length l.steps.cells.items
