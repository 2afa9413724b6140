use Rattle.re_steps.proofs.{Prelude.{refl, expression_of, Stage}, lemmas.StageLaws.goes_alike}
use Rattle.re_steps.proofs.sets.SetPair.search_from.Goals as goal

pub returns-clause-finishes : goal.returns-clause-finishes
returns-clause-finishes c = λ first cache none goes.
    let there : Stage = record { set = c.args.set.now; cache = cache; steps = c.args.meter.now } in
    let here : Stage = record { set = c.copy_from.new.self; cache = cache; steps = c.args.meter.now } in
    c.rest.ensures.finishes first cache none
    (goes_alike (expression_of c.args.automaton.now) c.args.mode c.args.line.now c.args.from first there here (record { set = c.copy_from.ensures; cache = refl; steps = refl }) goes)
