use Rattle.re_auto.proofs.{Prelude.{◌≡◌, ℕ, ◌+◌, ◌*◌, length, Has, row_of}, lemmas.BitLemmas.{AreAmong, AddsUp}}
use Rattle.re_auto.proofs.bits.add_rows_of_word.Given as goal

-- what is already added and what is left to add are together the whole
abbrev pub invariant-bits : goal.invariant-bits
invariant-bits l =
    (length l.into ≡ length l.fn.into)
    × (l.width ≡ length l.fn.into)
    × AreAmong l.left l.word
    × ((q : ℕ) → AddsUp (Has l.into q) (Has l.fn.into q) (λ b. Has (row_of l.table (length l.fn.into) (l.k * 64 + b)) q) l.left l.word)

abbrev pub decreases-bits : goal.decreases-bits
decreases-bits l = l.left
