use Rattle.grep_live.proofs.lemmas.CarryLemmas.{edits_carry}
use Rattle.grep_live.proofs.laws.edits_carry.Goals as goal

pub returns : goal.returns
returns c = edits_carry
