use Rattle.re_auto.proofs.Prelude.{length, sym, ap, ◌∙◌, with_items_is}
use Rattle.re_auto.proofs.build.ends.add_set.Goals as goal

pub add-requires : goal.add-requires
add-requires c = record { same = ap length c.deref_mut.ensures.value ∙ c.requires.same ∙ sym (rw c.deref.ensures.value) }

pub returns-clause-added : goal.returns-clause-added
returns-clause-added c = λ q.
    rw (with_items_is c.args.into.now c.add.new.into (c.add.ensures.len ∙ c.deref_mut.ensures.len)) (rw (c.deref_mut.ensures.value, c.deref.ensures.value) at (c.add.ensures.added q))
