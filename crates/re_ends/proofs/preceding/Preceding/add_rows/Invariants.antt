use Rattle.{re_ends.{proofs.Prelude.{◌≡◌, ℕ, ◌+◌, ◌*◌, length, Covers, Expression, Has, part_of}, specs.Working.Preceding.ArePrecedingFor}, re_auto.proofs.lemmas.BitLemmas.{AreAmong, AddsUp}}
use Rattle.re_ends.proofs.preceding.Preceding.add_rows.Given as goal

-- what is already added and what is left to add are together the whole
abbrev pub invariant-bits : goal.invariant-bits
invariant-bits l = record {
  len : length l.set ≡ length l.fn.set;
  among : AreAmong l.left l.members;
  covers : Covers l.covering l.set;
  added : (e : Expression) (p : ℕ) → ArePrecedingFor e l.self → AddsUp (Has l.set p) (Has l.fn.set p) (λ b. (part_of e 0).follow p (l.k * 64 + b)) l.left l.members;
}

abbrev pub decreases-bits : goal.decreases-bits
decreases-bits l = l.left
