use Rattle.re_steps.proofs.{Prelude.{inl, refl, Stage}, lemmas.StageLaws.goes_nowhere}
use Rattle.re_steps.proofs.sets.SetPair.search.Goals as goal

pub returns-clause-searches : goal.returns-clause-searches
returns-clause-searches c = λ cache none.
    let first : Stage = record { set = c.start.new.into; cache = cache; steps = c.args.meter.now } in
    record {
      first = first;
      stands = c.start.ensures.stands c.args.mode c.args.line.now;
      cache = inl refl;
      steps = refl;
      finishes = c.rest.ensures.finishes first cache none (goes_nowhere _ _ _ _);
    }
