use Rattle.grep_utility.proofs.lemmas.KnownLemmas.{count_decides}
use Rattle.grep_utility.proofs.laws.failures_decide.Goals as goal

pub returns : goal.returns
returns c = count_decides c.args._options
