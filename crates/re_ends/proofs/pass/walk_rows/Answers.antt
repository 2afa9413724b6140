use Rattle.re_ends.proofs.Prelude.{arith, ap, refl, length, length-set, max, ◌≡◌, ◌-◌, ◌∙◌}
use Rattle.re_ends.proofs.lemmas.TableLaws as laws
use Rattle.re_ends.proofs.pass.walk_rows.Goals as goal

pub apply-requires : goal.apply-requires
apply-requires c = λ held. let inv = c.places.invariant in laws.kept_fits c.requires.sound inv.at c.step-step.ensures.small c.step-step.ensures.is held (omega (arith, c.requires.most, inv.most))

pub places-preserved : goal.places-preserved
places-preserved c =
    let inv = c.places.invariant in
    record {
      at = laws.walked c.requires.sound inv.at c.step-step.ensures.small c.step-step.ensures.is (c.if-not-apply.ensures.known refl) c.apply.new.list inv.some (λ kept op count. c.if-not-apply.ensures.moved kept op count refl);
      on = omega (arith, inv.on);
      stop = omega (arith, c.places-test.true);
      some = omega (arith, c.if-place-eq0.false);
      len = ap length c.put_end.ensures ∙ length-set c.places.ends _ _ ∙ inv.len;
      most = c.apply.ensures.most ∙ inv.most;
      added = λ end old begun. laws.walked_ends c.requires.sound inv.at c.step-step.ensures.small c.step-step.ensures.is (c.if-not-apply.ensures.known refl) c.apply.new.list inv.some (λ kept op count. c.if-not-apply.ensures.moved kept op count refl)
          c.args.stop end old c.places.ends c.put_end.new.ends (omega (arith, c.if-place-eq0.false)) c.places-test.true (omega (arith, inv.len, inv.on, c.requires.room, c.places-test.true)) c.put_end.ensures (inv.added end old begun);
    }

pub returns-then-place-eq0-clause-at : goal.returns-then-place-eq0-clause-at
returns-then-place-eq0-clause-at c = let inv = c.places.invariant in laws.walked c.requires.sound inv.at c.step-step.ensures.small c.step-step.ensures.is (c.if-not-apply.ensures.known refl) c.apply.new.list inv.some (λ kept op count. c.if-not-apply.ensures.moved kept op count refl)

pub returns-then-place-eq0-clause-added : goal.returns-then-place-eq0-clause-added
returns-then-place-eq0-clause-added c = let one : max (c.places.place - 1) 1 ≡ c.places.place = omega (arith, c.if-place-eq0.true, c.places.invariant.some) in rw one c.places.invariant.added

pub returns-then-not-apply-clause-added : goal.returns-then-not-apply-clause-added
returns-then-not-apply-clause-added c = let same : max c.places.place 1 ≡ c.places.place = omega (arith, c.places.invariant.some) in rw same c.places.invariant.added

pub returns-clause-added : goal.returns-clause-added
returns-clause-added c = let same : max c.places.place 1 ≡ c.places.place = omega (arith, c.places.invariant.some) in rw same c.places.invariant.added
