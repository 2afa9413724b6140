use Rattle.re_auto.proofs.Prelude.{◌≡◌, ℕ, ◌≤◌, length, get_or}
use Rattle.re_auto.proofs.ranges.past_word.Given as goal

abbrev pub invariant-words : goal.invariant-words
invariant-words l = (l.past ≤ length l.row) × ((j : ℕ) → l.past ≤ j → get_or l.row j 0 ≡ 0)

abbrev pub decreases-words : goal.decreases-words
decreases-words l = l.past
