use Rattle.re_auto.proofs.Prelude.{◌≡◌, ℕ, ◌<◌, length, ◌⊎◌, ◌↔◌, IsTrue, members, Has, row_of}
use Rattle.re_auto.proofs.build.rows.mark_takers.Given as goal

-- what is marked and what is left to mark are together the whole
abbrev pub invariant-loop-c : goal.invariant-loop-c
invariant-loop-c l =
    goal.iterator-loop-c.can_next l.c-iterator
    × goal.iterator-loop-c.is_finite l.c-iterator
    × (length l.takes ≡ length l.fn.takes)
    × ((c q : ℕ) → c < 256 → (Has (row_of l.takes l.width c) q ⊎ IsTrue (members l.c-iterator c) × (q ≡ l.position)) ↔ (Has (row_of l.fn.takes l.width c) q ⊎ IsTrue (members l.fn.takers c) × (q ≡ l.position)))
