use Rattle.re_steps.proofs.{Prelude.{arith, ◌≡◌, suc, ◌+◌, ◌-◌, ◌<◌, slice_index, subst, add-one, cell_at, walked, IsAt}, lemmas.WalkLaws.{comes_on, walked_on, walked_none}}
use Rattle.re_steps.proofs.table.StepTable.walk.Goals as goal

pub places-preserved : goal.places-preserved
places-preserved c =
    let known = c.args.self.now in
    let line = c.args.asked.now.line.now in
    let byte = slice_index line c.places.place in
    let small : byte < 256 = omega (arith, c.type_inv.line c.places.place) in
    let at = c.places.row in
    let same : c.cell_in-cell.result ≡ cell_at known.classes.items known.pairs.cells at byte = rw (c.places.invariant.classes, c.places.invariant.cells) at c.cell_in-cell.ensures in
    let row = c.places.invariant.row in
    let on = (c.requires.right.sound.reported_too at row.0 byte row.1 small).plain (omega (arith, same, c.if-cell-ge-LIMIT.false)) in
    record {
      classes = c.places.invariant.classes;
      cells = c.places.invariant.cells;
      low = omega (arith, c.places.invariant.low);
      high = omega arith;
      row = rw same (on.into, on.row);
      comes = λ first steps came.
          let n = c.places.place - c.args.from.place in
          let there = comes_on c.requires.right.sound line first
          (walked n steps) c.places.place at c.places-test.true small (omega (arith, same, c.if-cell-ge-LIMIT.false)) (c.places.invariant.comes first steps came) in
          let count : suc n ≡ c.places.place + 1 - c.args.from.place = omega (arith, c.places.invariant.low) in
          rw same
          (subst (λ k. IsAt c.args.asked.now first known (walked k steps) (c.places.place + 1) (cell_at known.classes.items known.pairs.cells at byte)) count
          (rw (add-one c.places.place) (subst (λ s. IsAt c.args.asked.now first known s (suc c.places.place) (cell_at known.classes.items known.pairs.cells at byte)) (walked_on n 1 (suc n) steps (omega arith)) there)));
    }

pub places-init : goal.places-init
places-init c =
    let known = c.args.self.now in
    record {
      classes = c.as_slice-classes.ensures.value;
      cells = c.cells-cells.ensures.cells;
      low = omega arith;
      high = c.requires.within;
      row = c.requires.row;
      comes = λ first steps came.
          rw (walked_none c.args.from.place steps) came;
    }

pub returns-then-cell-floor-clause-on : goal.returns-then-cell-floor-clause-on
returns-then-cell-floor-clause-on c = (c.places.invariant.low, c.places.invariant.high)

pub returns-then-cell-floor-clause-row : goal.returns-then-cell-floor-clause-row
returns-then-cell-floor-clause-row c = c.places.invariant.row

pub returns-then-cell-floor-clause-comes : goal.returns-then-cell-floor-clause-comes
returns-then-cell-floor-clause-comes c = c.places.invariant.comes

pub returns-clause-on : goal.returns-clause-on
returns-clause-on c = (c.places.invariant.low, c.places.invariant.high)

pub returns-clause-row : goal.returns-clause-row
returns-clause-row c = c.places.invariant.row

pub returns-clause-comes : goal.returns-clause-comes
returns-clause-comes c = c.places.invariant.comes

pub returns-then-cell-floor-clause-cell : goal.returns-then-cell-floor-clause-cell
returns-then-cell-floor-clause-cell c = λ _. rw (c.places.invariant.classes, c.places.invariant.cells) at c.cell_in-cell.ensures

pub returns-clause-cell : goal.returns-clause-cell
returns-clause-cell c = λ inside. let none : ⊥ = omega (arith, inside, c.places-test.false) in absurd none
