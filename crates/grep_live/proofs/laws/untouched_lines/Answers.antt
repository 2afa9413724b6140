use Rattle.grep_live.proofs.lemmas.UntouchedLemmas.{untouched_lines}
use Rattle.grep_live.proofs.laws.untouched_lines.Goals as goal

pub returns : goal.returns
returns c = untouched_lines
