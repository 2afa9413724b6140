use Rattle.re_ends.proofs.Prelude.{arith, refl, inl, inr}
use Rattle.re_ends.proofs.table.first_of.Goals as goal

pub returns-then-ends-k-gt0 : goal.returns-then-ends-k-gt0
returns-then-ends-k-gt0 c = inr (c.places.k, c.places-test.true, c.if-ends-k-gt0.true, refl, c.places.invariant)

pub returns : goal.returns
returns c = inl (refl, λ k lt. c.places.invariant k (omega (arith, lt, c.places-test.false)))
