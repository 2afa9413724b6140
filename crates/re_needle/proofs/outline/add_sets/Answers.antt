use Rattle.re_needle.proofs.Prelude.{arith, take_all}
use Rattle.re_needle.proofs.outline.add_sets.Goals as goal

pub returns : goal.returns
returns c = rw (take_all c.sets.k c.args.sets.now (omega arith)) at c.sets.invariant
