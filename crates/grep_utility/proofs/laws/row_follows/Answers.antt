use Rattle.grep_utility.proofs.lemmas.WorkedLemmas as worked
use Rattle.grep_utility.proofs.laws.row_follows.Goals as goal

pub returns : goal.returns
returns c = worked.row_follows
