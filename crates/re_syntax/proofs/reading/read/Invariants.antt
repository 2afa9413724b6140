use Rattle.re_syntax.{proofs.Prelude.{List, ◌-◌, length}, specs.{Tokens.Token, Working.{Builds.{Builds, build_all, nothing_built}, ShapeSteps.Reaches}}}
use Rattle.re_syntax.proofs.reading.read.Given as goal

-- the text was cut up to a place, where the shape is known, and this is built of the tokens
abbrev pub invariant-tokens : goal.invariant-tokens
invariant-tokens l = (done : List Token) × Reaches l.syntax l.text l.at l.shape done × Builds l.building (build_all done nothing_built)

abbrev pub decreases-tokens : goal.decreases-tokens
decreases-tokens l = length l.text - l.at
