use Rattle.re_auto.proofs.Prelude.{◌≡◌, ℕ, ◌<◌, ◌↔◌, false, IsTrue, length, get_or, expression_of, part_of}
use Rattle.re_auto.proofs.step.automaton.Automaton.bytes.Given as goal

abbrev pub invariant-bytes : goal.invariant-bytes
invariant-bytes l =
    (length l.marks ≡ 256)
    × ((k : ℕ) → k < l.byte → IsTrue (get_or l.marks k false) ↔ ((q : ℕ) × (part_of (expression_of l.self) 0).takes q k))
