use Rattle.grep_live.proofs.lemmas.OnlyLemmas.{one_splice}
use Rattle.grep_live.proofs.laws.one_splice.Goals as goal

pub returns : goal.returns
returns c = one_splice
