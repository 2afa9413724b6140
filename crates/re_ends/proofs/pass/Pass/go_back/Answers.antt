use Rattle.re_ends.proofs.Prelude.{arith, refl, inl, inr, ◌≡◌}
use Rattle.re_ends.proofs.pass.Pass.go_back.Goals as goal

pub places-init : goal.places-init
places-init c = record {
  at = c.requires.at;
  stop = c.requires.stop;
  on = omega arith;
  added = (refl, λ i m inside. ((λ h. inl h), (λ h. elim h [ inl o ↦ o | inr o ↦ absurd (omega (arith, o.0, inside)) ])));
  counted = omega arith;
}

pub places-preserved : goal.places-preserved
places-preserved c = record {
  at = c.onward-spot.ensures.at;
  stop = c.onward-spot.ensures.stop;
  on = omega (arith, c.onward-spot.ensures.on, c.places.invariant.on);
  added = c.onward-spot.ensures.added c.args.from.place c.args.ends.now c.places.invariant.added;
  counted = omega (arith, c.onward-spot.ensures.counted, c.places.invariant.counted);
}

pub returns-clause-added : goal.returns-clause-added
returns-clause-added c = rw (let there : c.places.spot.place ≡ c.args.stop = omega (arith, c.places-test.false, c.places.invariant.stop) in there) at c.places.invariant.added
