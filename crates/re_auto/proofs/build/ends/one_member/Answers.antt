use Rattle.re_auto.proofs.Prelude.{arith}
use Rattle.re_auto.proofs.build.ends.one_member.Goals as goal

pub insert-requires : goal.insert-requires
insert-requires c = omega (arith, c.deref_mut.ensures.len, c.in_ok-set.ensures.0, c.requires)
