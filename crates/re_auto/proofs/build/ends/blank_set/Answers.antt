use Rattle.re_auto.proofs.{Prelude.IfOk-weaker, lemmas.BitLemmas.zeros_are}
use Rattle.re_auto.proofs.build.ends.blank_set.Goals as goal

pub returns : goal.returns
returns c =
    IfOk-weaker c.vec.result _ _
    (λ words zeros. rw (zeros (λ y h. h)) (zeros_are _)) c.vec.ensures.items_if_clones_equal
