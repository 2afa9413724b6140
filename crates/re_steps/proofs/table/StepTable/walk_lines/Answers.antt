use Rattle.{re_steps.proofs.{Prelude.{arith, false, Text, Matches, ◌≡◌, ◌<◌, slice_index, sym, expression_in, cell_at}, lemmas.{RowLaws.cell_within, LineWalks.{marked, walks_from, walks_on, walks_over}}, table.StepTable.walk_lines.Goals.{then-byte-eq10+then-lines-most, else-byte-eq10+then-cell-ge-LIMIT}}, re_runs.proofs.lemmas.BlockLemmas.passes_none}
use Rattle.re_steps.proofs.table.StepTable.walk_lines.Goals as goal

pub places-init : goal.places-init
places-init c =
    let within = c.requires.within in
    record {
      classes = c.as_slice-classes.ensures.value;
      cells = c.cells-cells.ensures.cells;
      marks = c.as_slice-marks.ensures.value;
      goes =
          rw c.row-first.ensures
          (walks_from c.args.asked.now c.args.self.now c.requires.ready.0 c.requires.plain 0 (passes_none (λ (line : Text). ¬ Matches (expression_in c.args.asked.now) line false) c.args.asked.now.line.now) (omega (arith, within)));
    }

pub bounds-block-lines : goal.bounds-block-lines
bounds-block-lines c = c.places.invariant.goes.within

pub bounds-marks-number : goal.bounds-marks-number
bounds-marks-number c = rw (c.places.invariant.marks, c.number.ensures) (marked c.args.asked.now c.args.self.now c.requires.ready.0 c.requires.plain c.places.lines.row c.places.invariant.goes.row)

pub places-preserved-then-byte-eq10 : goal.places-preserved-then-byte-eq10
places-preserved-then-byte-eq10 c =
    let i = c.places.invariant in
    record {
      classes = i.classes;
      cells = i.cells;
      marks = i.marks;
      goes =
          rw c.row-first.ensures
          (walks_over c.args.asked.now c.args.self.now c.requires.ready.0 c.requires.plain c.places.lines _ c.requires.search i.goes c.if-byte-eq10.true (rw (i.marks, c.number.ensures) at c.if-marks-number.false) (omega (arith, c.requires.within, c.if-lines-most.false)));
    }

pub cell_in-cell-requires : goal.cell_in-cell-requires
cell_in-cell-requires c =
    let line = c.args.asked.now.line.now in
    let small : slice_index line c.places.lines.place < 256 = omega (arith, c.type_inv.block c.places.lines.place) in
    let row = c.places.invariant.goes.row in
    rw (c.places.invariant.classes, c.places.invariant.cells) (cell_within c.requires.ready.0.sound c.places.lines.row (slice_index line c.places.lines.place) row.0 row.1 small)

pub places-preserved : goal.places-preserved
places-preserved c =
    let known = c.args.self.now in
    let byte = slice_index c.args.asked.now.line.now c.places.lines.place in
    let i = c.places.invariant in
    let same : c.cell_in-cell.result ≡ cell_at known.classes.items known.pairs.cells c.places.lines.row byte = rw (i.classes, i.cells) at c.cell_in-cell.ensures in
    record {
      classes = i.classes;
      cells = i.cells;
      marks = i.marks;
      goes =
          rw same
          (walks_on c.args.asked.now known c.requires.ready.0 c.requires.plain c.places.lines c.requires.block i.goes c.if-byte-eq10.false (omega (arith, c.type_inv.block c.places.lines.place)) (omega (arith, same, c.if-cell-ge-LIMIT.false)));
    }

pub returns-clause-goes : goal.returns-clause-goes
returns-clause-goes c =
    let same : c.args.self.now ≡ c.if-byte-eq10.self = elim c.if-byte-eq10.branch [
      | then-byte-eq10+then-lines-most w ↦ sym w.self-is
      | else-byte-eq10+then-cell-ge-LIMIT w ↦ sym w.self-is
    ] in
    let goes = rw same at c.places.invariant.goes in
    record { passed = goes.passed; low = goes.low; within = goes.within; free = goes.free; row = goes.row; comes = goes.comes }
