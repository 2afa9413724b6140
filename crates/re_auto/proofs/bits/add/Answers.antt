use Rattle.re_auto.proofs.{Prelude.arith, lemmas.BitLemmas.or_has}
use Rattle.re_auto.proofs.bits.add.Goals as goal

pub returns-clause-added : goal.returns-clause-added
returns-clause-added c =
    or_has c.args.into.now c.args.row.now c.words.into c.requires.same c.words.invariant.0
    (λ j lt. c.words.invariant.1 j (omega arith))
