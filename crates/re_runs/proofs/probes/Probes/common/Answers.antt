use Rattle.re_runs.proofs.{Prelude.refl, lemmas.NibbleLanes.{halves_met, pair_met}}
use Rattle.re_runs.proofs.probes.Probes.common.Goals as goal

pub returns-then-not-this : goal.returns-then-not-this
returns-then-not-this g c k l all = pair_met _ _ c.args.line.now c.args.place k all l refl _ _ _ c.both.ensures c.looked_up-first.ensures c.looked_up.ensures

pub returns : goal.returns
returns g c k l all =
    halves_met _ _ c.args.line.now c.args.place k all l refl _ _ _ _ _ _ _ c.both-2.ensures c.both-3.ensures c.both-4.ensures c.half_looked_up-first.ensures c.half_looked_up-second.ensures c.half_looked_up-third.ensures c.half_looked_up.ensures
