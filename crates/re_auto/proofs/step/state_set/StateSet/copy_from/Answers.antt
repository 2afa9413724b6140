use Rattle.re_auto.proofs.Prelude.{◌∙◌, refl}
use Rattle.re_auto.proofs.step.state_set.StateSet.copy_from.Goals as goal

pub returns : goal.returns
returns c = (c.copy_from_slice.ensures.items ∙ c.deref.ensures.value, refl)
