use Rattle.gaxtrel.proofs.{Prelude.{eq-eqb, eqb-true, terms_of}, KeptLemmas.all_may}
use Rattle.gaxtrel.proofs.patterns.Patterns.allows.Goals as goal

pub returns : goal.returns
returns c =
    let all = all_may (terms_of c.args.self.now) c.most_of.result c.args.bytes c.most_of.ensures.few c.most_of.ensures.within c.most_of.ensures.most in
    ((λ h. all.0 (eqb-true _ _ h)), (λ may. eq-eqb _ _ (all.1 may)))
