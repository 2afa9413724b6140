use Rattle.{re_match.proofs.Prelude.{◌+◌, ◌-◌, arith}, re_meter.proofs.lemmas.Adding.{adds_within, built_adds}}
use Rattle.re_match.proofs.window.Edges.start.Goals as goal

pub returns-clause-steps : goal.returns-clause-steps
returns-clause-steps c =
    let n = c.args.near - c.in-Some.start + 1 in
    rw c.add_built.ensures (adds_within n (c.in-Some.start - c.args.from) 0 0 _ _ (omega (arith, c.in-Some.ensures.low, c.min-most.ensures)) (omega arith) (built_adds n 0 c.args.meter.now))
