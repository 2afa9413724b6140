use Rattle.line_finds.proofs.{Prelude.{◌≡◌, lowered_pair}, lemmas.MappedLemmas.mapped_to}
use Rattle.line_finds.proofs.matches.lower_each.Given as goal

-- the first are lowered, and the others are as they were
abbrev pub invariant-loop-pair : goal.invariant-loop-pair
invariant-loop-pair l = l.pairs ≡ mapped_to (lowered_pair l.first l.by) l.fn.pairs l.pair-index
