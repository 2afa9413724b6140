use Rattle.re_strings.proofs.Prelude.{◌≡◌, ◌≤◌, ◌-◌, [], length, AreClasses}
use Rattle.re_strings.proofs.step_rows.classes_of.Given as goal

abbrev pub invariant-bytes : goal.invariant-bytes
invariant-bytes l = record {
  classes : AreClasses l.trie.bytes.items l.steps;
  few : length l.steps.classes.items ≤ 256;
  none : l.steps.cells.items ≡ [];
}

abbrev pub decreases-bytes : goal.decreases-bytes
decreases-bytes l = 256 - length l.steps.classes.items
