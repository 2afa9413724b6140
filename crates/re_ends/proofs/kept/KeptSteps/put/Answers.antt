use Rattle.re_ends.{proofs.{Prelude.{arith, false, set, sym, ◌+◌, ◌≡◌, slice_index, expression_of, Has, part_of, positions}, lemmas.GroupLaws.first_alike, kept.KeptSteps.put.Goals.After-index}, specs.Working.{Groups.numbers_of, KeptSteps.AreRight}}
use Rattle.re_ends.proofs.lemmas.KeptLaws as laws
use Rattle.re_ends.proofs.kept.KeptSteps.put.Goals as goal

pub returns-in_default-clause-sound : goal.returns-in_default-clause-sound
returns-in_default-clause-sound c = laws.right_lists c.requires.sound c.operation_of.ensures.kept

pub first_in-inside-requires : goal.first_in-inside-requires
first_in-inside-requires c = record { row = (positions (expression_of c.args.automaton.now), omega (arith, c.requires.made.few), rw c.deref-2.ensures.value c.requires.row, omega (arith, c.beginning.ensures.0)) }

class : (c : After-index) → c.index.result.now ≡ slice_index c.args.self.now.classes.items c.args.byte
class c = laws.class_read c.requires.sound c.index.result.now c.ranges.byte.fits c.index.ensures

pub overflow_add-at : goal.overflow_add-at
overflow_add-at c =
    let inside = laws.cell_before c.requires.sound c.requires.from.2 c.args.byte c.ranges.byte.fits in
    omega (arith, class (goal.at.overflow_add-at c).After-index, inside, c.requires.sound.rows.small)

pub overflow_cast-to : goal.overflow_cast-to
overflow_cast-to c = let small = laws.row_small c.requires.sound c.requires.to in omega (arith, small)

pub index_mut-requires : goal.index_mut-requires
index_mut-requires c =
    let inside = laws.cell_within c.requires.sound c.requires.from.2 c.args.byte c.ranges.byte.fits in
    omega (arith, class (goal.at.index_mut-requires c).After-index, inside, c.args.self.now.cells.ok)

sound : (c : After-index) → AreRight (expression_of c.args.automaton.now) (record {
  classes = c.args.self.now.classes.items;
  width = c.args.self.now.width;
  rows = c.args.self.now.rows.items;
  cells = set c.args.self.now.cells.items (c.args.from + c.index.result.now) (record { row = c.args.to; inside = c.first_in-inside.result; op = c.in-Ok.op; count = c.args.groups.now.count });
  lists = c.operation_of.new.lists.items;
})
sound c =
    let e = expression_of c.args.automaton.now in
    rw (class c) (laws.right_put (laws.right_lists c.requires.sound c.operation_of.ensures.kept) c.requires.from.2 c.ranges.byte.fits (record {
      into = c.args.groups.now.row.items;
      row = c.requires.to;
      kept = numbers_of c.args.groups.now.runs.items;
      op = rw c.deref.ensures.value at c.in-Ok.ensures.op.1;
      count = sym c.requires.count;
      right = c.requires.from.3;
      inside = first_alike (Has c.beginning.result.now) ((part_of e 0).first false) _ c.beginning.ensures.1 (rw c.deref-2.ensures.value at c.first_in-inside.ensures);
    }))

pub returns-then-op-lt-LISTED-clause-sound : goal.returns-then-op-lt-LISTED-clause-sound
returns-then-op-lt-LISTED-clause-sound c = sound (goal.at.returns-then-op-lt-LISTED-clause-sound c).After-index

pub returns-clause-sound : goal.returns-clause-sound
returns-clause-sound c = rw c.count_bytes.ensures (sound (goal.at.returns-clause-sound c).After-index)

pub returns-clause-kept : goal.returns-clause-kept
returns-clause-kept c = λ row end of is. rw c.count_bytes.ensures is
