use Rattle.re_needle.proofs.Prelude.{drop, map, shown}
use Rattle.re_needle.proofs.needle.leading_bytes.Goals as goal

pub returns : goal.returns
returns c = (map shown (drop c.marks.mark-index c.args.marks.now), c.marks.invariant)

pub returns-in_default : goal.returns-in_default
returns-in_default c = (map shown (drop c.marks.mark-index c.args.marks.now), c.marks.invariant)
