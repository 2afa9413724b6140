use Rattle.grep_utility.proofs.lemmas.BrokenLemmas as worked
use Rattle.grep_utility.proofs.laws.broken_follows.Goals as goal

pub returns : goal.returns
returns c = worked.broken_follows
