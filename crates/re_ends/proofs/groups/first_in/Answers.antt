use Rattle.re_ends.proofs.Prelude.{arith, inl, inr, refl, cases_lt, ◌≡◌, ◌/◌, slice_index, Has}
use Rattle.re_ends.proofs.lemmas.ClosingLaws as laws
use Rattle.re_ends.proofs.groups.first_in.Goals as goal

pub bounds-set-word_of : goal.bounds-set-word_of
bounds-set-word_of c =
    let (n, few, row, room) = c.requires.row in
    let (q, names) = row.full c.pieces.i (omega (arith, c.pieces-test.true)) in
    let less = row.small _ q (c.pieces.i, omega (arith, c.pieces-test.true), refl, names) in
    let half = names.0 in omega (arith, less, room, half, c.word_of.ensures)

pub overflow_add-result : goal.overflow_add-result
overflow_add-result c =
    let (n, few, row, room) = c.requires.row in
    let less = (row.groups _).1 (laws.member c.args.row.now row.full c.pieces.i (omega (arith, c.pieces-test.true))) in omega (arith, less, laws.few_groups _ _ row.in_turn row.groups, row.few, few)

pub returns-then-members_of-set-ne0 : goal.returns-then-members_of-set-ne0
returns-then-members_of-set-ne0 c =
    let (n, few, row, room) = c.requires.row in
    let less = (row.groups _).1 (laws.member c.args.row.now row.full c.pieces.i (omega (arith, c.pieces-test.true))) in
    let common = laws.some_common c.members_of.result c.args.set.now c.word_of.result c.if-members_of-set-ne0.true (omega arith) in
    let (q, names, has) = (laws.piece_members (slice_index c.args.row.now c.pieces.i) c.members_of.result c.word_of.result c.word_of.ensures c.members_of.ensures (Has c.args.set.now)).0 common in
    inr (
      slice_index c.args.row.now c.pieces.i / 281474976710656,
      omega (arith, less, laws.few_groups _ _ row.in_turn row.groups, row.few, few),
      (q, (c.pieces.i, omega (arith, c.pieces-test.true), refl, names), has),
      λ j p (i, lt, is, named) h. elim (cases_lt i c.pieces.i) [
        | inl before ↦ absurd (c.pieces.invariant i before p named h)
        | inr ge ↦ elim (cases_lt c.pieces.i i) [
          | inl after ↦ let le = row.in_turn c.pieces.i i after lt in omega (arith, le, is)
          | inr same ↦ rw (← (let e : i ≡ c.pieces.i = omega (arith, ge, same) in e)) (omega (arith, is))
        ]
      ],
    )

pub pieces-preserved : goal.pieces-preserved
pieces-preserved c = λ j lt q names has. elim (cases_lt j c.pieces.i) [
  | inl less ↦ c.pieces.invariant j less q names has
  | inr ge ↦
      let named = rw (let e : j ≡ c.pieces.i = omega (arith, lt, ge) in e) at names in
      let (b, less, bit, here) = (laws.piece_members (slice_index c.args.row.now c.pieces.i) c.members_of.result c.word_of.result c.word_of.ensures c.members_of.ensures (Has c.args.set.now)).1 (q, named, has) in
      laws.none_common c.members_of.result c.args.set.now c.word_of.result c.if-members_of-set-ne0.false b less bit here
]
