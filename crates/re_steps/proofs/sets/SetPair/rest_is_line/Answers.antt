use Rattle.re_steps.proofs.{Prelude.{◌≡◌, inl, inr, refl, arith, add-one, Search, Whole}, lemmas.StageLaws.goes_built}
use Rattle.re_steps.proofs.sets.SetPair.rest_is_line.Goals as goal

pub places-preserved : goal.places-preserved
places-preserved c = record {
  made = c.advance.ensures.made;
  goes = λ first cache none goes. rw (add-one c.places.place)
      (goes_built _ _ _ _ _ _ _ _ _ _
      none whole_is_plain c.advance.ensures.next c.advance.ensures.counted (c.places.invariant.goes first cache none goes));
}
  where
    whole_is_plain : {X : Type 0} → Whole ≡ Search → X
    whole_is_plain is = cc

pub returns-then-is_nowhere-clause-finishes : goal.returns-then-is_nowhere-clause-finishes
returns-then-is_nowhere-clause-finishes c = λ first cache none goes. record {
  place = c.places.place;
  within = omega arith;
  set = c.places.self.current;
  goes = c.places.invariant.goes first cache none goes;
  decides = inr (inl (record { whole = refl; nowhere = c.is_nowhere.ensures.0 c.if-is_nowhere.true; no = refl }));
}

pub returns-clause-finishes : goal.returns-clause-finishes
returns-clause-finishes c = λ first cache none goes. record {
  place = c.places.place;
  within = omega arith;
  set = c.places.self.current;
  goes = c.places.invariant.goes first cache none goes;
  decides = inr (inr (record { last = omega arith; reported = c.accepts.ensures.reported }));
}
