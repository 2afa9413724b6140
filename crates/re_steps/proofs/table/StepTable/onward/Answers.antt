use Rattle.re_steps.proofs.{Prelude.{arith, ◌∙◌, ◌+◌, ◌-◌, ◌<◌, length, sym, add-one, slice_get-get_or}, lemmas.WalkLaws.{walked_is, arrives_on}}
use Rattle.re_steps.proofs.table.StepTable.onward.Goals as goal

pub returns-in-Some-clause-arrives : goal.returns-in-Some-clause-arrives
returns-in-Some-clause-arrives c =
    let line = c.args.asked.now.line.now in
    let known = c.args.self.now in
    let walk = c.walk-walk.result in
    let counted = walked_is (walk.place - c.args.spot.place) c.args.meter.now c.add_reused_steps.new.self c.add_reused_steps.ensures.counted c.add_reused_steps.ensures.none in
    let inside : walk.place < length line = omega (arith, c.if-walk-asked.false) in
    arrives_on c.args.asked.now known c.args.meter.now c.args.spot c.step.new.self c.step.new.meter c.arrive.new.self c.arrive.new.meter (walk.place + 1) c.in-Some.cell c.arrive.result c.arrive.ensures.leads c.arrive.ensures.right
    (omega (arith, c.walk-walk.ensures.on.0))
    (λ first came. (
      walk.place,
      sym (add-one walk.place),
      c.in-Some.ensures.lands line first walk.place (slice_get-get_or line walk.place 0 inside)
          (rw counted (c.walk-walk.ensures.comes first c.args.meter.now came)),
    ))

pub returns-in-Some-clause-lasts : goal.returns-in-Some-clause-lasts
returns-in-Some-clause-lasts c = record {
  made = rw c.arrive.ensures.keeps.scratch c.step.ensures.lasts.made;
  most = c.arrive.ensures.keeps.most ∙ c.step.ensures.lasts.most;
}

pub returns-in-None-clause-arrives : goal.returns-in-None-clause-arrives
returns-in-None-clause-arrives c =
    let line = c.args.asked.now.line.now in
    let known = c.args.self.now in
    let walk = c.walk-walk.result in
    let counted = walked_is (walk.place - c.args.spot.place) c.args.meter.now c.add_reused_steps.new.self c.add_reused_steps.ensures.counted c.add_reused_steps.ensures.none in
    let inside : walk.place < length line = omega (arith, c.if-walk-asked.false) in
    record {
      within = omega (arith, inside);
      goes = λ first cache none came. rw (add-one walk.place) (c.in-None.ensures.alone line first walk.place (slice_get-get_or line walk.place 0 inside)
          (rw counted (c.walk-walk.ensures.comes first c.args.meter.now came)) cache none);
    }

pub step-requires-clause-row : goal.step-requires-clause-row
step-requires-clause-row c = c.walk-walk.ensures.row

pub step-requires-clause-cell : goal.step-requires-clause-cell
step-requires-clause-cell c = c.walk-walk.ensures.cell (omega (arith, c.if-walk-asked.false))

pub returns-then-walk-asked-clause-arrives : goal.returns-then-walk-asked-clause-arrives
returns-then-walk-asked-clause-arrives c =
    let known = c.args.self.now in
    let walk = c.walk-walk.result in
    let counted = walked_is (walk.place - c.args.spot.place) c.args.meter.now c.add_reused_steps.new.self c.add_reused_steps.ensures.counted c.add_reused_steps.ensures.none in
    record {
      right = c.requires.ready.0;
      on = omega (arith, c.requires.within, c.if-walk-asked.true);
      within = c.walk-walk.ensures.on.1;
      row = c.walk-walk.ensures.row;
      comes = λ first came.
          rw counted (c.walk-walk.ensures.comes first c.args.meter.now came);
    }
