use Rattle.re_ends.{proofs.Prelude.{ℕ, ◌<◌, slice_index, Has}, specs.Working.Groups.Names}
use Rattle.re_ends.proofs.groups.first_in.Given as goal

-- no position of the pieces before is in the set
abbrev pub invariant-pieces : goal.invariant-pieces
invariant-pieces l = (j : ℕ) → j < l.i → (q : ℕ) → Names (slice_index l.row j) q → Has l.set q → ⊥
