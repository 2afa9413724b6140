use Rattle.re_syntax.specs.BasicTokens.{star, plus, question}
use Rattle.re_syntax.proofs.basic.duplications.read_sign.Goals as goal

pub returns-in-Some : goal.returns-in-Some
returns-in-Some c = let s = c.in-Some.ensures in record { within = s.within; bytes = _; duplication = star; front = s.front }

pub returns-in-Some-after : goal.returns-in-Some-after
returns-in-Some-after c = let s = c.in-Some-after.ensures in record { within = s.within; bytes = _; duplication = plus; front = s.front }

pub returns : goal.returns
returns c = let s = c.in_ok-beyond.ensures in record { within = s.within; bytes = _; duplication = question; front = s.front }
