use Rattle.grep_session.proofs.{Prelude.arith, lemmas.NearLemmas.selected_on}
use Rattle.grep_session.proofs.shown.find_near.Goals as goal

pub returns : goal.returns
returns c = selected_on (omega arith) (omega arith) c.requires.near
