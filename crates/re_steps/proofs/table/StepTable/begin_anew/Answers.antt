use Rattle.re_steps.proofs.{Prelude.{arith, refl, ◌∙◌, slice_get_within, expression_in}, lemmas.RowLaws.{first_later, says_cell, row_small}}
use Rattle.re_steps.proofs.table.StepTable.begin_anew.Goals as goal

pub number_of-requires-clause-made : goal.number_of-requires-clause-made
number_of-requires-clause-made c = rw (c.begin.ensures.keeps.scratch ∙ c.clear.ensures.keeps.scratch) c.requires.made

pub cell_of-requires-clause-within : goal.cell_of-requires-clause-within
cell_of-requires-clause-within c =
    let known = c.number_of.new.self in
    omega (arith, slice_get_within known.sets.keys c.in_ok-number.number c.in_ok-number.ensures.number.0 c.in_ok-number.ensures.number.1, c.in_ok-number.ensures.sound.as_many)

pub cell_of-requires-clause-small : goal.cell_of-requires-clause-small
cell_of-requires-clause-small c =
    row_small c.in_ok-number.ensures.sound _ _ c.in_ok-number.ensures.number.1

pub returns-clause-right : goal.returns-clause-right
returns-clause-right c = record {
  sound = c.in_ok-number.ensures.sound;
  first = first_later _ _ _ _ c.in_ok-number.ensures.kept (c.if-not-begin.ensures.right refl).first;
}

pub returns-clause-cell : goal.returns-clause-cell
returns-clause-cell c = λ from byte next.
    let known = c.number_of.new.self in
    let e = expression_in c.args.asked.now in
    let same = c.in_ok-number.ensures.number in
    let alike = rw (c.begin.ensures.keeps.scratch ∙ c.clear.ensures.keeps.scratch) at same.2 in
    let mark = c.in_ok-number.ensures.sound.marked c.in_ok-number.number same.0 same.1 in
    says_cell e _ _ _ _ _ _ _ _ _ _ same.1 alike next mark.reported_too
    (row_small c.in_ok-number.ensures.sound _ _ same.1) (c.cell_of.ensures mark.mark mark.is)
