use Rattle.re_steps.proofs.{Prelude.{arith, ◌≡◌, ◌+◌, ◌*◌, ℕ, List, slice_index, sym, ap, ◌∙◌, slice_get_within, StepTable, Rows, IsRowOf, AreSound, expression_in}, lemmas.{RowLaws.{first_later, cell_within, sound_held, says_cell, set_of_row, row_small}, WalkLaws.holds_no_other}}
use Rattle.re_steps.proofs.table.StepTable.learn.Goals as goal

pub advance-requires-clause-from : goal.advance-requires-clause-from
advance-requires-clause-from c =
    let row = c.requires.row in
    rw (set_of_row c.requires.ready.0.sound _ _ _ _ _ row.1 c.as_slice.ensures.keys c.number.ensures c.index-as_slice-number.is) (c.requires.ready.0.sound.made row.1.number row.0 row.1.is)

pub returns-in_err-number-clause-next : goal.returns-in_err-number-clause-next
returns-in_err-number-clause-next c = λ set row.
    rw c.number_of.ensures.keeps.scratch
    (rw (set_of_row c.requires.ready.0.sound _ _ _ _ _ row c.as_slice.ensures.keys c.number.ensures c.index-as_slice-number.is) at
    c.advance.ensures.next)

pub returns-clause-next : goal.returns-clause-next
returns-clause-next c = λ set row.
    rw c.number_of.ensures.keeps.scratch
    (rw (set_of_row c.requires.ready.0.sound _ _ _ _ _ row c.as_slice.ensures.keys c.number.ensures c.index-as_slice-number.is) at
    c.advance.ensures.next)

pub cell_of-cell-requires-clause-within : goal.cell_of-cell-requires-clause-within
cell_of-cell-requires-clause-within c =
    let known = c.number_of.new.self in
    omega (arith, slice_get_within known.sets.keys c.in_ok-number.number c.in_ok-number.ensures.number.0 c.in_ok-number.ensures.number.1, c.in_ok-number.ensures.sound.as_many)

pub cell_of-cell-requires-clause-small : goal.cell_of-cell-requires-clause-small
cell_of-cell-requires-clause-small c =
    row_small c.in_ok-number.ensures.sound _ _ c.in_ok-number.ensures.number.1

pub put-requires-clause-known : goal.put-requires-clause-known
put-requires-clause-known c =
    let known = c.number_of.new.self in
    let e = expression_in c.args.asked.now in
    let row = c.requires.row in
    let same = c.in_ok-number.ensures.number in
    let mark = c.in_ok-number.ensures.sound.marked c.in_ok-number.number same.0 same.1 in
    let next = rw (set_of_row c.requires.ready.0.sound _ _ _ _ _ row.1 c.as_slice.ensures.keys c.number.ensures c.index-as_slice-number.is) at
    c.advance.ensures.next in
    (says_cell e _ _ _ _ _ _ _ _ _ _ same.1 same.2 next mark.reported_too
    (row_small c.in_ok-number.ensures.sound _ _ same.1) (c.cell_of-cell.ensures mark.mark mark.is)).0

pub returns-clause-found : goal.returns-clause-found
returns-clause-found c = λ set row.
    let known = c.number_of.new.self in
    let e = expression_in c.args.asked.now in
    let same = c.in_ok-number.ensures.number in
    let mark = c.in_ok-number.ensures.sound.marked c.in_ok-number.number same.0 same.1 in
    let next = rw (set_of_row c.requires.ready.0.sound _ _ _ _ _ row c.as_slice.ensures.keys c.number.ensures c.index-as_slice-number.is) at
    c.advance.ensures.next in
    says_cell e _ _ _ _ _ _ _ _ _ _ same.1 same.2 next mark.reported_too
    (row_small c.in_ok-number.ensures.sound _ _ same.1) (c.cell_of-cell.ensures mark.mark mark.is)

pub returns-clause-right : goal.returns-clause-right
returns-clause-right c =
    let new = c.number_of.new.self in
    let e = expression_in c.args.asked.now in
    let row = c.requires.row in
    let kept = c.in_ok-number.ensures.kept in
    let later : IsRowOf new.sets.keys new.stride c.args.row row.0 = record { number = row.1.number; row = row.1.row ∙ ap (λ n. row.1.number * n) (sym kept.stride); is = kept.sets row.1.number row.0 row.1.is } in
    record {
      sound = rw c.put.ensures.most (sound_held c.in_ok-number.ensures.sound _ _ _ _ _ _
          later c.ranges.byte.fits (returns-clause-found c row.0 row.1).1 c.put.ensures.len
          (rw c.as_slice-2.ensures.value at c.put.ensures.here)
          (rw c.as_slice-2.ensures.value at c.put.ensures.others)
          c.put.ensures.mirrors);
      first = first_later e _ _ _ kept c.requires.ready.0.first;
    }

-- the sets of a table with other classes and entries
abbrev rows_with : List ℕ → ℕ → StepTable → List (ℕ × ℕ) → Rows
rows_with classes stride t entries = record { classes = classes; stride = stride; sets = t.sets.keys; marks = t.marks.items; cells = t.pairs.cells; entries = entries; most = t.pairs.most }

pub returns-clause-others : goal.returns-clause-others
returns-clause-others c = λ set row.
    let known = c.args.self.now in
    let new = c.number_of.new.self in
    let e = expression_in c.args.asked.now in
    let kept = c.in_ok-number.ensures.kept in
    let sound : AreSound e c.args.asked.now.mode (rows_with known.classes.items known.stride new known.pairs.entries) =
    rw kept.entries at
    (rw kept.stride at
    (rw kept.classes at c.in_ok-number.ensures.sound)) in
    rw kept.classes
    (rw kept.stride
    (holds_no_other c.requires.ready.0.sound new.sets.keys new.marks.items new.pairs.cells new.pairs.most sound
    (λ r other at. record { number = at.number; row = at.row; is = kept.sets at.number other at.is }) c.put.new.self.cells c.put.new.self.entries c.put.ensures.mirrors c.args.row c.args.byte set row c.ranges.byte.fits
    (rw (c.as_slice-2.ensures.value ∙ kept.classes) at c.put.ensures.others)
    c.put.ensures.len))

pub number_of-requires-clause-sound : goal.number_of-requires-clause-sound
number_of-requires-clause-sound c = c.requires.ready.0.sound

pub number_of-requires-clause-made : goal.number_of-requires-clause-made
number_of-requires-clause-made c = c.advance.ensures.made

pub returns-in_err-number-clause-lasts : goal.returns-in_err-number-clause-lasts
returns-in_err-number-clause-lasts c = record {
  made = rw c.number_of.ensures.keeps.scratch c.advance.ensures.made;
  most = c.number_of.ensures.keeps.most;
}

pub returns-in_err-number-clause-counted : goal.returns-in_err-number-clause-counted
returns-in_err-number-clause-counted c = c.advance.ensures.counted

pub returns-in_err-number-clause-right : goal.returns-in_err-number-clause-right
returns-in_err-number-clause-right c = rw c.from_residual.ensures tt

pub returns-in_err-number-clause-found : goal.returns-in_err-number-clause-found
returns-in_err-number-clause-found c = λ set row. rw c.from_residual.ensures tt

pub returns-in_err-number-clause-others : goal.returns-in_err-number-clause-others
returns-in_err-number-clause-others c = λ set row. rw c.from_residual.ensures tt

pub put-requires-clause-within : goal.put-requires-clause-within
put-requires-clause-within c =
    let known = c.args.self.now in
    let row = c.requires.row in
    let kept = c.in_ok-number.ensures.kept in
    let inside = cell_within c.requires.ready.0.sound c.args.row c.args.byte row.0 row.1 c.ranges.byte.fits in
    let classes : c.as_slice-2.result.now ≡ known.classes.items = c.as_slice-2.ensures.value ∙ kept.classes in
    rw classes (omega (arith, inside, kept.more))

pub put-requires-clause-none : goal.put-requires-clause-none
put-requires-clause-none c =
    let known = c.args.self.now in
    let row = c.requires.row in
    let kept = c.in_ok-number.ensures.kept in
    let inside = cell_within c.requires.ready.0.sound c.args.row c.args.byte row.0 row.1 c.ranges.byte.fits in
    let classes : c.as_slice-2.result.now ≡ known.classes.items = c.as_slice-2.ensures.value ∙ kept.classes in
    rw classes (kept.cells (c.args.row + slice_index known.classes.items c.args.byte) inside ∙ c.requires.none)

pub returns-clause-counted : goal.returns-clause-counted
returns-clause-counted c = c.advance.ensures.counted

pub returns-clause-lasts : goal.returns-clause-lasts
returns-clause-lasts c = record {
  made = rw c.number_of.ensures.keeps.scratch c.advance.ensures.made;
  most = c.put.ensures.most ∙ c.number_of.ensures.keeps.most;
}
