use Rattle.re_auto.proofs.{Prelude.{◌≡◌, ℕ, ◌+◌, ◌*◌, ◌≤◌, length, Has, row_of}, lemmas.BitLemmas.{AreAmong, AddsUp}}
use Rattle.re_auto.proofs.build.rows.cross_word.Given as goal

-- what is already added and what is left to add are together the whole
abbrev pub invariant-bits : goal.invariant-bits
invariant-bits l =
    (length l.follow ≡ length l.fn.follow)
    × AreAmong l.left l.word
    × ((x q : ℕ) → x * l.width + l.width ≤ length l.fn.follow →
    AddsUp (Has (row_of l.follow l.width x) q) (Has (row_of l.fn.follow l.width x) q) (λ b. (x ≡ l.k * 64 + b) × Has l.first q) l.left l.word)

abbrev pub decreases-bits : goal.decreases-bits
decreases-bits l = l.left
