use Rattle.re_steps.proofs.{Prelude.{arith, ◌≡◌, length, inr, refl, ◌∙◌}, lemmas.RowLaws.{row_inside, mark_of_row}}
use Rattle.re_steps.proofs.table.StepTable.search_from.Goals as goal

pub places-init : goal.places-init
places-init c = record {
  within = c.requires.within;
  right = c.requires.ready.0;
  row = c.requires.row;
  lasts = record { made = c.requires.ready.1; most = refl };
  comes = λ first came. came;
}

pub places-preserved : goal.places-preserved
places-preserved c =
    let on = c.in-To.ensures.arrives in
    record {
      within = on.within;
      right = on.right;
      row = on.row;
      lasts = record { made = c.onward.ensures.lasts.made; most = c.onward.ensures.lasts.most ∙ c.places.invariant.lasts.most };
      comes = λ first came. on.comes first (c.places.invariant.comes first came);
    }

pub returns-in-Reported-clause-ends : goal.returns-in-Reported-clause-ends
returns-in-Reported-clause-ends c =
    let reported = c.in-Reported.ensures.arrives in
    record { right = reported.right; finishes = λ first came. reported.finishes first (c.places.invariant.comes first came) }

pub returns-in-Alone-clause-ends : goal.returns-in-Alone-clause-ends
returns-in-Alone-clause-ends c =
    let alone = c.in-Alone.ensures.arrives in
    record { within = alone.within; goes = λ first cache none came. alone.goes first cache none (c.places.invariant.comes first came) }

pub mark-requires : goal.mark-requires
mark-requires c =
    let sound = c.places.invariant.right.sound in
    let row = c.places.invariant.row in
    let inside = row_inside sound c.places.spot.row row.0 row.1 in
    omega (arith, inside, c.number.ensures, sound.as_many)

pub returns-clause-ends : goal.returns-clause-ends
returns-clause-ends c = record {
  right = c.places.invariant.right;
  finishes = λ first before.
      let came = c.places.invariant.comes first before in
      let last : c.places.spot.place ≡ length c.args.asked.now.line.now = omega (arith, c.places.invariant.within, c.places-test.false) in
      let mark = mark_of_row c.places.invariant.right.sound
      c.places.spot.row came.set c.mark.result came.row (rw (← c.number.ensures) c.mark.ensures) in
      record { place = c.places.spot.place; within = c.places.invariant.within; set = came.set; goes = came.goes; decides = inr (inr (record { last = last; reported = mark.at_end })) };
}
