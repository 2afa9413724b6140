use Rattle.grep_utility.proofs.{Prelude.⊤, lemmas.FullLemmas.predicted}
use Rattle.grep_utility.proofs.laws.words_decide.Goals as goal

pub returns : goal.returns
returns c folder words output messages missing found f = predicted folder words output messages missing found f (λ left. ⊤)
