use Rattle.re_auto.proofs.{Prelude.arith, lemmas.{BitLemmas.{at_word, word_added, all_added, chained}, RowLemmas.one_row}}
use Rattle.re_auto.proofs.build.rows.cross_rows.Goals as goal

pub cross_word-requires-clause-rows : goal.cross_word-requires-clause-rows
cross_word-requires-clause-rows c = λ b lt h. rw c.words.invariant.0 (c.requires.rows _ ((at_word c.args.last.now c.words.k b lt).1 h))

pub words-preserved : goal.words-preserved
words-preserved c = (omega arith, λ x q within. chained (word_added c.args.last.now c.words.k (c.cross_word.ensures.added x q (rw c.words.invariant.0 within))) (c.words.invariant.1 x q within))

pub returns-clause-added : goal.returns-clause-added
returns-clause-added c = λ x q within. one_row (all_added c.args.last.now c.words.k (omega arith) (c.words.invariant.1 x q within))
