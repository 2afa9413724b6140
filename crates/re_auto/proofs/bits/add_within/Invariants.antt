use Rattle.re_auto.proofs.Prelude.{◌≡◌, ℕ, ◌<◌, ◌≤◌, length, get_or, bit_or}
use Rattle.re_auto.proofs.bits.add_within.Given as goal

abbrev pub invariant-words : goal.invariant-words
invariant-words l =
    (length l.into ≡ length l.fn.into)
    × ((j : ℕ) → l.fn.range.first ≤ j → j < l.k → get_or l.into j 0 ≡ bit_or (get_or l.fn.into j 0) (get_or l.row j 0))
    × ((j : ℕ) → j < l.fn.range.first → get_or l.into j 0 ≡ get_or l.fn.into j 0)
    × ((j : ℕ) → l.k ≤ j → get_or l.into j 0 ≡ get_or l.fn.into j 0)
