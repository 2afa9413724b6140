use Rattle.re_auto.proofs.Prelude.{◌≡◌, ℕ, ◌<◌, get_or, bit_and}
use Rattle.re_auto.proofs.bits.meets.Given as goal

abbrev pub invariant-words : goal.invariant-words
invariant-words l = (j : ℕ) → j < l.k → bit_and (get_or l.a j 0) (get_or l.b j 0) ≡ 0
