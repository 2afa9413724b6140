use Rattle.{re_ends.{proofs.{Prelude.{arith, ap, get_or, refl, slice_get, sym, length, length-replicate, set, take, ◌++◌, ◌≡◌, ◌*◌, ◌≤◌, ◌∙◌, expression_of, positions}, kept.KeptSteps.begin_anew.Goals.After-extend_from_slice}, specs.Working.KeptSteps.no_step}, std.{specs.Prelude.vec_capacity, proofs.lemmas.List.length-take}, re_auto.proofs.lemmas.RowLemmas.row_within}
use Rattle.re_ends.proofs.lemmas.KeptLaws as laws
use Rattle.re_ends.proofs.kept.KeptSteps.begin_anew.Goals as goal

third : (c : After-extend_from_slice) → (positions (expression_of c.args.automaton.now) ≤ vec_capacity c.extend_from_slice.new.self) × (c.extend_from_slice.new.self.items ≡ c.args.row.now)
third c =
    let (x, y, z, more, is, none, none-2, fits) = c.requires.rows.0.begin in
    let same = c.index_mut-third.ensures.value ∙ ap (λ l. get_or l 2 c.index_mut-third.result.now) (c.truncate.ensures.items ∙ ap (take 3) is) in
    let room : positions (expression_of c.args.automaton.now) ≤ vec_capacity c.clear.new.self = omega (arith, ap (λ v. vec_capacity v) same, c.clear.ensures.capacity, fits) in
    let ok = c.extend_from_slice.ensures.succeeds (omega (arith, room, c.clear.ensures.len, c.requires.row.few)) in
    (omega (arith, room, c.extend_from_slice.ensures.capacity), rw ok at c.extend_from_slice.ensures.items ∙ ap (λ l. l ++ c.args.row.now) c.clear.ensures.items)

pub returns-clause-sound : goal.returns-clause-sound
returns-clause-sound c =
    let (rows, filled) = c.requires.rows in
    let (x, y, z, more, is, none, none-2, fits) = rows.begin in
    let (room, same) = third (goal.at.returns-clause-sound c).After-extend_from_slice in
    let blank = c.fill.ensures.items (λ y h. h) in
    let three = row_within 2 (length c.args.self.now.rows.items) c.args.self.now.width (omega (arith, ap length is)) in
    let long = length-take (3 * c.args.self.now.width) c.args.self.now.cells.items in
    rw (c.truncate.ensures.items, ap (λ l. set (take 3 l) 2 c.extend_from_slice.new.self) is)
    (laws.right_three x y c.extend_from_slice.new.self c.clear-2.new.self.items rows.classes none none-2 (rw same c.requires.row) room
    (omega (arith, ap length blank, length-replicate c.truncate-2.new.self.len no_step, c.truncate-2.new.self.ok, ap length c.truncate-2.ensures.items, long, filled, three)) (λ k. ap (λ l. get_or l k no_step) blank ∙ laws.blank_at no_step c.truncate-2.new.self.len k))

pub returns-clause-row : goal.returns-clause-row
returns-clause-row c = record {
  number = 2;
  list = c.extend_from_slice.new.self;
  row = refl;
  is = rw c.truncate.ensures.items (ap (λ l. slice_get (set (take 3 l) 2 c.extend_from_slice.new.self) 2) c.requires.rows.0.begin.4);
  same = sym (third (goal.at.returns-clause-row c).After-extend_from_slice).1;
  last = refl;
}
