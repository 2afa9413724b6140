use Rattle.re_syntax.specs.ExtendedTokens.{star, plus, question}
use Rattle.re_syntax.proofs.extended.sign_counts.Goals as goal

pub returns-in-42 : goal.returns-in-42
returns-in-42 c = rw c.in-42.is star

pub returns-in-43 : goal.returns-in-43
returns-in-43 c = rw c.in-43.is plus

pub returns-in-63 : goal.returns-in-63
returns-in-63 c = rw c.in-63.is question
