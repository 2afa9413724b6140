use Rattle.line_finds.proofs.{Prelude.{◌≡◌, moved_pair}, lemmas.MappedLemmas.mapped_to}
use Rattle.line_finds.proofs.matches.move_each.Given as goal

-- the first are moved, and the others are as they were
abbrev pub invariant-loop-pair : goal.invariant-loop-pair
invariant-loop-pair l = l.pairs ≡ mapped_to (moved_pair l.from l.to) l.fn.pairs l.pair-index
