use Rattle.gaxtrel.proofs.KeptLemmas.{still_right}
use Rattle.gaxtrel.proofs.patterns.Patterns.which.Goals as goal

pub invariant_of-self : goal.invariant_of-self
invariant_of-self c = still_right _ _ _ _ _ c.put_numbers.ensures.same c.deref_mut.ensures.value c.deref_mut.ensures.len c.self.invariant
