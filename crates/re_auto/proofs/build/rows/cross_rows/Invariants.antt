use Rattle.re_auto.proofs.Prelude.{◌≡◌, ℕ, ◌+◌, ◌*◌, ◌≤◌, length, ◌⊎◌, ◌↔◌, Has, row_of}
use Rattle.re_auto.proofs.build.rows.cross_rows.Given as goal

-- what is already added and what is left to add are together the whole
abbrev pub invariant-words : goal.invariant-words
invariant-words l =
    (length l.follow ≡ length l.fn.follow)
    × ((x q : ℕ) → x * l.width + l.width ≤ length l.fn.follow →
    (Has (row_of l.follow l.width x) q ⊎ ((p : ℕ) × (l.k * 64 ≤ p) × Has l.last p × ((x ≡ p) × Has l.first q)))
    ↔ (Has (row_of l.fn.follow l.width x) q ⊎ ((p : ℕ) × Has l.last p × ((x ≡ p) × Has l.first q))))
