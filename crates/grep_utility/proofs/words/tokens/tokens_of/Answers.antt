use Rattle.grep_utility.proofs.{Prelude.{[], refl, pieces, texts_of}, lemmas.TokenLemmas.group-end}
use Rattle.grep_utility.proofs.words.tokens.tokens_of.Goals as goal

pub returns : goal.returns
returns c = group-end (pieces (texts_of c.args.words.now)) [] refl
