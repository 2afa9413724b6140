use Rattle.re_search.proofs.{Prelude.{◌+◌, ◌≤◌, arith, sym, subst}, lemmas.LinePartsLaws.{none_first, none_last, passed_on, first_from}}
use Rattle.re_search.proofs.line_parts.part_from.Goals as goal

pub places-init : goal.places-init
places-init c = record {
  on = omega (arith, c.saturating_sub-place.ensures);
  later = λ sought line seen long are i j f. subst (λ k. c.args.first + k ≤ i) (sym c.saturating_sub-place.ensures) (none_first sought line c.args.ends.now c.args.first c.args.from seen are (omega (arith, long)) i j f);
}

pub places-preserved : goal.places-preserved
places-preserved c = record {
  on = omega (arith, c.places.invariant.on);
  later = λ sought line seen long are.
      passed_on sought line c.args.ends.now c.args.first c.args.from seen are c.places.place c.places.invariant.on (omega (arith, c.places-test.true, long)) (c.places.invariant.later sought line seen long are) (omega (arith, c.if-ends-place-gt0.false));
}

pub returns-then-ends-place-gt0 : goal.returns-then-ends-place-gt0
returns-then-ends-place-gt0 c = λ sought line seen long are.
    first_from sought line c.args.ends.now c.args.first c.args.from seen are c.places.place c.places.invariant.on (omega (arith, c.places-test.true, long)) (c.places.invariant.later sought line seen long are) (omega (arith, c.if-ends-place-gt0.true))

pub returns : goal.returns
returns c = λ sought line seen long are.
    none_last sought line c.args.ends.now c.args.first c.args.from seen are c.places.place (omega (arith, c.places-test.false)) (c.places.invariant.later sought line seen long are)
