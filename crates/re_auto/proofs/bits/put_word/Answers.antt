use Rattle.re_auto.proofs.lemmas.WordLemmas.{written_has}
use Rattle.re_auto.proofs.bits.put_word.Goals as goal

pub returns-clause-put : goal.returns-clause-put
returns-clause-put c = written_has c.args.into.now c.args.word c.requires c.ranges.word.fits
