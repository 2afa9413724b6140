use Rattle.re_strings.proofs.Prelude.{arith}
use Rattle.re_strings.proofs.build.bytes_of.Goals as goal

pub returns-clause-all : goal.returns-clause-all
returns-clause-all c = omega (arith, c.places.invariant.all, c.places-test.false, c.places.auto.place-end)

pub returns-clause-each : goal.returns-clause-each
returns-clause-each c = λ n below. c.places.invariant.each n (omega (arith, c.places-test.false))
