use Rattle.re_auto.proofs.lemmas.PositionsDecide.{positions_decide}
use Rattle.re_auto.proofs.laws.positions_decide.Goals as goal

pub returns : goal.returns
returns c = positions_decide
