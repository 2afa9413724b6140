use Rattle.re_auto.proofs.{Prelude.{IsTrue, part_of}, lemmas.SetsByChains.{fronts, fronts_back}}
use Rattle.re_auto.proofs.laws.fronts_decide.Goals as goal

pub returns : goal.returns
returns c = λ e n mode front rest S. (fronts (part_of e n) front rest mode (λ q. IsTrue (S q)), fronts_back (part_of e n) front rest mode (λ q. IsTrue (S q)))
