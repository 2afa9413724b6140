use Rattle.line_finds.proofs.{Prelude.{◌≡◌, ◌-◌}, lemmas.MappedLemmas.mapped_to}
use Rattle.line_finds.proofs.pieces.lower.Given as goal

abbrev pub invariant-loop-start : goal.invariant-loop-start
invariant-loop-start l = l.starts ≡ mapped_to (λ start. start - l.by) l.fn.starts l.start-index
