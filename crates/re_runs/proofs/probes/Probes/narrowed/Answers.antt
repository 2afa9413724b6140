use Rattle.{re_runs.proofs.Prelude.{arith, bit_at_and}, std.proofs.lemmas.Nat.Bits.bit_at-lt}
use Rattle.re_runs.proofs.probes.Probes.narrowed.Goals as goal

pub returns-clause-each : goal.returns-clause-each
returns-clause-each g c k lt marked all =
    let some = (c.nonzero.ensures k).1 (λ none. omega (arith, none, c.looked_up-third.ensures.each k lt, c.looked_up.ensures.each k lt, c.lesser.ensures.each k lt, all.third.1, all.fourth.1)) in
    omega (arith, bit_at_and c.args.marks c.nonzero.result k, marked, some)

pub returns-clause-within : goal.returns-clause-within
returns-clause-within g c k h = omega (arith, bit_at_and c.args.marks c.nonzero.result k, bit_at-lt c.args.marks k, bit_at-lt c.nonzero.result k)
