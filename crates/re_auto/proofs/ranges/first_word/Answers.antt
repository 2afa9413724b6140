use Rattle.re_auto.proofs.{Prelude.arith, lemmas.RangeLemmas.not_before}
use Rattle.re_auto.proofs.ranges.first_word.Goals as goal

pub returns-then-row-k-ne0 : goal.returns-then-row-k-ne0
returns-then-row-k-ne0 c = not_before c.args.row.now c.words.k c.words.invariant

pub returns : goal.returns
returns c = not_before c.args.row.now _ (λ j lt. c.words.invariant j (omega arith))
