use Rattle.grep_live.proofs.{Prelude.{◌∷◌, decimal}, lemmas.Pushing.EachUpTo}
use Rattle.grep_live.proofs.rows.write_numbers.Given as goal

abbrev pub invariant-loop-number : goal.invariant-loop-number
invariant-loop-number g l = EachUpTo g.W.CountedWrite.contents g.W.CountedWrite.failures (λ number. 32 ∷ decimal number) l.numbers l.fn.out l.out l.number-index
