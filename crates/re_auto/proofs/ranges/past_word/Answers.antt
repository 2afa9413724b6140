use Rattle.re_auto.proofs.{Prelude.arith, lemmas.RangeLemmas.not_from}
use Rattle.re_auto.proofs.ranges.past_word.Goals as goal

pub returns-then-row-past-ne0-clause-past : goal.returns-then-row-past-ne0-clause-past
returns-then-row-past-ne0-clause-past c = not_from c.args.row.now c.words.past c.words.invariant.1

pub returns-clause-past : goal.returns-clause-past
returns-clause-past c = not_from c.args.row.now 0 (λ j _. c.words.invariant.1 j (omega arith))
