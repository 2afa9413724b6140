use Rattle.re_auto.proofs.Prelude.{◌≡◌, ℕ, ◌*◌, ◌≤◌, length, ◌⊎◌, ◌↔◌, Has, row_of}
use Rattle.re_auto.proofs.bits.add_rows.Given as goal

-- what is already added and what is left to add are together the whole
abbrev pub invariant-words : goal.invariant-words
invariant-words l =
    (length l.into ≡ length l.fn.into)
    × ((q : ℕ) → (Has l.into q ⊎ ((p : ℕ) × (l.k * 64 ≤ p) × Has l.from p × Has (row_of l.table (length l.fn.into) p) q))
    ↔ (Has l.fn.into q ⊎ ((p : ℕ) × Has l.from p × Has (row_of l.table (length l.fn.into) p) q)))
