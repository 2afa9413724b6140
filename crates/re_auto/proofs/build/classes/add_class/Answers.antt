use Rattle.re_auto.proofs.lemmas.ClassLemmas.{new_class}
use Rattle.re_auto.proofs.build.classes.add_class.Goals as goal

pub returns-in_ok-extend_from_slice : goal.returns-in_ok-extend_from_slice
returns-in_ok-extend_from_slice c = new_class _ _ _ _ _ _ c.requires.table c.requires.same c.if-class-count.true c.in_ok-extend_from_slice.ensures.items (rw c.deref.ensures.value at c.find_class-class.ensures.first)
