use Rattle.re_auto.proofs.{Prelude.arith, lemmas.BitLemmas.and_has}
use Rattle.re_auto.proofs.bits.keep.Goals as goal

pub returns-clause-kept : goal.returns-clause-kept
returns-clause-kept c =
    and_has c.args.into.now c.args.row.now c.words.into c.requires.same c.words.invariant.0
    (λ j lt. c.words.invariant.1 j (omega arith))
