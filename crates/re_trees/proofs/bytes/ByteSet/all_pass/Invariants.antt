use Rattle.re_trees.proofs.Prelude.{ℕ, ◌⊎◌, IsTrue, true, members}
use Rattle.re_trees.proofs.bytes.ByteSet.all_pass.Given as goal

abbrev pub invariant-loop-byte : goal.invariant-loop-byte
invariant-loop-byte g l =
    (goal.iterator-loop-byte g).can_next l.byte-iterator
    × (goal.iterator-loop-byte g).is_finite l.byte-iterator
    × goal.F-IsAlwaysCallable g l.passes
    × ((b : ℕ) → IsTrue (members l.byte-iterator b) → IsTrue (members l.fn.self b))
    × ((b : ℕ) → IsTrue (members l.fn.self b) → IsTrue (members l.byte-iterator b) ⊎ goal.F-post g l.passes b true)
