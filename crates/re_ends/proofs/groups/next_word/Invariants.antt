use Rattle.re_ends.proofs.Prelude.{◌≡◌, ℕ, ◌<◌, ◌≤◌, get_or}
use Rattle.re_ends.proofs.groups.next_word.Given as goal

abbrev pub invariant-words : goal.invariant-words
invariant-words l = (j : ℕ) → l.from ≤ j → j < l.k → get_or l.set j 0 ≡ 0
