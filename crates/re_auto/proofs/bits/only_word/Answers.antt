use Rattle.re_auto.proofs.lemmas.WordLemmas.{word_has}
use Rattle.re_auto.proofs.bits.only_word.Goals as goal

pub returns : goal.returns
returns c = word_has c.args.words.now c.requires (c.type_inv.words 0).fits
