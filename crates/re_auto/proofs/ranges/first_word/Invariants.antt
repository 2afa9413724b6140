use Rattle.re_auto.proofs.Prelude.{◌≡◌, ℕ, ◌<◌, get_or}
use Rattle.re_auto.proofs.ranges.first_word.Given as goal

abbrev pub invariant-words : goal.invariant-words
invariant-words l = (j : ℕ) → j < l.k → get_or l.row j 0 ≡ 0
