use Rattle.re_auto.proofs.lemmas.BitLemmas.{insert_has}
use Rattle.re_auto.proofs.bits.insert.Goals as goal

pub returns-clause-inserted : goal.returns-clause-inserted
returns-clause-inserted c = insert_has c.args.into.now c.args.e c.requires.room
