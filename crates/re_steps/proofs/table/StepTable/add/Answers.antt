use Rattle.re_steps.proofs.{Prelude.{◌≡◌, ◌++◌, ◌∷◌, [], length, length-append, replicate, refl, ap, ◌∙◌, arith, get_or_append_left, unknown}, lemmas.{StateSetKeys.{new_last, new_number}, RowLaws.{sound_longer, get_left, get_last}}}
use Rattle.re_steps.proofs.table.StepTable.add.Goals as goal

keys_of : (c : goal.In_ok-number) → c.insert_full.new.self.keys ≡ c.args.self.now.sets.keys ++ c.args.set ∷ []
keys_of c = c.in_ok-number.ensures.keys ∙ new_last c.args.self.now.sets.keys c.args.set c.requires.fresh

cells_of : (c : goal.In_ok-number) → c.add_row.new.self.cells ≡ c.args.self.now.pairs.cells ++ replicate c.args.self.now.stride unknown
cells_of c = c.in_ok-add_row.ensures.added ∙ ap (λ n. c.args.self.now.pairs.cells ++ replicate n unknown) c.width.ensures.width

number_is : (c : goal.In_ok-number) → c.in_ok-number.number ≡ length c.args.self.now.sets.keys
number_is c = c.in_ok-number.ensures.index ∙ new_number c.args.self.now.sets.keys c.args.set c.requires.fresh

pub returns-clause-added : goal.returns-clause-added
returns-clause-added c = keys_of c

pub returns-clause-number : goal.returns-clause-number
returns-clause-number c = rw (number_is c, keys_of c) (get_last c.args.self.now.sets.keys c.args.set)

pub returns-clause-kept : goal.returns-clause-kept
returns-clause-kept c = record {
  classes = refl;
  stride = refl;
  sets = λ number set is. rw (keys_of c) (get_left c.args.self.now.sets.keys (c.args.set ∷ []) number set is);
  cells = λ k lt. rw (cells_of c) (get_or_append_left c.args.self.now.pairs.cells (replicate c.args.self.now.stride unknown) 0 k lt);
  more = omega (arith, ap length (cells_of c), length-append c.args.self.now.pairs.cells (replicate c.args.self.now.stride unknown));
  entries = c.in_ok-add_row.ensures.held.0;
}

pub returns-clause-sound : goal.returns-clause-sound
returns-clause-sound c =
    let known = c.args.self.now in
    let cells = cells_of c in
    rw (keys_of c, c.in_ok-push.ensures.items, cells, c.in_ok-add_row.ensures.held.0, c.in_ok-add_row.ensures.held.1)
    (sound_longer c.requires.sound
    c.args.set c.mark_of.result c.requires.made c.mark_of.ensures c.requires.fresh
    (c.has_room.ensures.cells c.if-not-has_room.false) (c.has_room.ensures.sets c.if-not-has_room.false)
    (rw c.in_ok-add_row.ensures.held.0 at (rw cells at c.in_ok-add_row.ensures.mirrors)))
