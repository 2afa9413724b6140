use Rattle.grep_live.proofs.lemmas.OnlyLemmas.{only_touched}
use Rattle.grep_live.proofs.laws.only_touched.Goals as goal

pub returns : goal.returns
returns c = only_touched
