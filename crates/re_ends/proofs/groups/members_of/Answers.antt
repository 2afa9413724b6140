use Rattle.re_ends.proofs.Prelude.{arith}
use Rattle.re_ends.proofs.lemmas.ClosingLaws as laws
use Rattle.re_ends.proofs.groups.members_of.Goals as goal

pub returns-then-piece-eq0 : goal.returns-then-piece-eq0
returns-then-piece-eq0 c = laws.low_members c.args.piece (omega (arith, c.if-piece-eq0.true))

pub returns : goal.returns
returns c = laws.high_members c.args.piece (omega (arith, c.if-piece-eq0.false))
