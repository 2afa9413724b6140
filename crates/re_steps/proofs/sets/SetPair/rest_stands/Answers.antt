use Rattle.re_steps.proofs.Prelude.{◌≡◌, length, inl, inr, refl, arith, false≢true}
use Rattle.re_steps.proofs.sets.SetPair.rest_stands.Goals as goal

pub places-preserved : goal.places-preserved
places-preserved c = record {
  within = c.pass-place.ensures.on.1;
  made = c.pass-place.ensures.made;
  goes = λ first cache none goes. c.pass-place.ensures.goes first cache none (λ search accepts. false≢true (c.if-accepts.ensures.reported.1 accepts)) (c.places.invariant.goes first cache none goes);
}

pub returns-then-accepts-clause-finishes : goal.returns-then-accepts-clause-finishes
returns-then-accepts-clause-finishes c = λ first cache none goes. record {
  place = c.places.place;
  within = c.places.invariant.within;
  set = c.places.self.current;
  goes = c.places.invariant.goes first cache none goes;
  decides = inl (record { search = refl; within = c.places-test.true; accepting = c.if-accepts.ensures.reported.0 refl; yes = refl });
}

pub returns-clause-finishes : goal.returns-clause-finishes
returns-clause-finishes c = λ first cache none goes.
    let last : c.places.place ≡ length c.args.line.now = omega (arith, c.places.invariant.within, c.places-test.false) in
    record {
      place = c.places.place;
      within = c.places.invariant.within;
      set = c.places.self.current;
      goes = c.places.invariant.goes first cache none goes;
      decides = inr (inr (record { last = last; reported = c.accepts-2.ensures.reported }));
    }
