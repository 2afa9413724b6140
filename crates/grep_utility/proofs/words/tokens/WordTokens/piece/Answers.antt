use Rattle.grep_utility.proofs.{Prelude.rules, lemmas.TokenLemmas.{used_up, word_of-end}}
use Rattle.grep_utility.proofs.words.tokens.WordTokens.piece.Goals as goal

pub returns-then-eq : goal.returns-then-eq
returns-then-eq c = search (rules, used_up, word_of-end c.in_ok-word.word.now (search rules))
