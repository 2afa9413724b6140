use Rattle.re_runs.proofs.{Prelude.{sym, ap, ◌∙◌, map, members, front_of, IfOk-weaker}, lemmas.RunLaws.one_image}
use Rattle.re_runs.proofs.run_finder.RunFinder.sets.Goals as goal

pub returns-in-Sets : goal.returns-in-Sets
returns-in-Sets c =
    IfOk-weaker c.first_sets.result _ _ (λ sets is run one.
    let (own, alone, same) = one_image (map members) c.in-Sets.finder run (sym (rw c.in-Sets.is) ∙ one) in
    is ∙ ap (λ s. front_of (map members s)) (c.first_run.ensures own alone) ∙ ap front_of same) c.first_sets.ensures
