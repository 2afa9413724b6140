use Rattle.re_syntax.{proofs.Prelude.{List, ◌-◌, length}, specs.{Tokens.Token, Working.ShapeSteps.Reaches}}
use Rattle.re_syntax.proofs.reading.count_positions.Given as goal

-- the text was cut up to a place, where the shape is known
abbrev pub invariant-tokens : goal.invariant-tokens
invariant-tokens l = (done : List Token) × Reaches l.syntax l.text l.at l.shape done

abbrev pub decreases-tokens : goal.decreases-tokens
decreases-tokens l = length l.text - l.at
