use Rattle.re_auto.proofs.Prelude.{ℕ, ◌<◌, IsMarked}
use Rattle.re_auto.proofs.beginnings.has_none.Given as goal

abbrev pub invariant-bytes : goal.invariant-bytes
invariant-bytes l = (c : ℕ) → c < l.byte → ¬ IsMarked l.marks c
