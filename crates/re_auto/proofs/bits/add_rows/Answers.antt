use Rattle.re_auto.proofs.{Prelude.arith, lemmas.BitLemmas.{at_word, word_added, all_added, chained}}
use Rattle.re_auto.proofs.bits.add_rows.Goals as goal

pub add_rows_of_word-requires-clause-rows : goal.add_rows_of_word-requires-clause-rows
add_rows_of_word-requires-clause-rows c = λ b lt h. rw c.words.invariant.0 (c.requires.rows _ ((at_word c.args.from.now c.words.k b lt).1 h))

pub add_rows_of_word-requires-clause-named : goal.add_rows_of_word-requires-clause-named
add_rows_of_word-requires-clause-named c = λ b lt h. c.requires.named _ ((at_word c.args.from.now c.words.k b lt).1 h)

pub add_rows_of_word-requires-clause-covered : goal.add_rows_of_word-requires-clause-covered
add_rows_of_word-requires-clause-covered c = rw c.words.invariant.0 c.requires.covered

pub words-preserved : goal.words-preserved
words-preserved c = (omega arith, λ q. chained (word_added c.args.from.now c.words.k (rw c.words.invariant.0 at (c.add_rows_of_word.ensures.added q))) (c.words.invariant.1 q))

pub returns-clause-added : goal.returns-clause-added
returns-clause-added c = λ q. all_added c.args.from.now c.words.k (omega arith) (c.words.invariant.1 q)
