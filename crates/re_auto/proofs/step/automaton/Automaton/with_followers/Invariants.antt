use Rattle.re_auto.proofs.{Prelude.{ℕ, expression_of, InWord, part_of}, lemmas.BitLemmas.{AreAmong, AddsUp}}
use Rattle.re_auto.proofs.step.automaton.Automaton.with_followers.Given as goal

-- what is already added and what is left to add are together the whole
abbrev pub invariant-bits : goal.invariant-bits
invariant-bits l =
    AreAmong l.left l.from
    × ((q : ℕ) → AddsUp (InWord l.next q) (InWord l.word q) (λ b. (part_of (expression_of l.self) 0).follow b q) l.left l.from)

abbrev pub decreases-bits : goal.decreases-bits
decreases-bits l = l.left
