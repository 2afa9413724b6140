use Rattle.{re_ends.{proofs.Prelude.{arith, ap, refl, inl, inr, sym, ℕ, zero, suc, part_of, false, true≢false, ◌∙◌, ◌≡◌, ◌+◌, ◌-◌, ◌<◌, length, slice_index, cases_lt, with_items_is}, specs.Working.Groups.{group_of, half_of}}, std.proofs.{Math.Dec.eqb, lemmas.Bool.eqb-true}}
use Rattle.re_ends.proofs.lemmas.ClosingLaws as laws
use Rattle.re_ends.proofs.groups.Groups.close_all.Goals as goal

pub add_to-range-requires-clause-made : goal.add_to-range-requires-clause-made
add_to-range-requires-clause-made c =
    let (b, same, none) = c.requires in
    let m = c.turn-range.ensures b same (c.pieces.invariant.met b same none) in (
      b.e,
      m.made.preceding,
      (λ k lt bit. m.row.small _ _ (c.pieces.i, rw same c.pieces-test.true, refl, rw same (rw c.word_of.ensures ((c.members_of.ensures k lt).0 bit)))),
      ap length c.deref_mut.ensures.value ∙ m.made.met,
    )

pub add_to-range-requires-clause-word : goal.add_to-range-requires-clause-word
add_to-range-requires-clause-word c =
    let (b, same, none) = c.requires in
    let m = c.turn-range.ensures b same (c.pieces.invariant.met b same none) in
    let (q, names) = m.row.full c.pieces.i (rw same c.pieces-test.true) in
    let less = m.row.small _ q (c.pieces.i, rw same c.pieces-test.true, refl, names) in
    let half = names.0 in
    (omega (arith, less, half, ap (λ xs. half_of (slice_index xs c.pieces.i)) same, c.word_of.ensures, ap length c.deref_mut.ensures.value, m.made.met), omega (arith, ap length c.deref_mut.ensures.value, m.made.met, m.made.few))

pub pieces-preserved : goal.pieces-preserved
pieces-preserved c = record {
  met = λ b same none.
      let m = c.turn-range.ensures b same (c.pieces.invariant.met b same none) in
      let met = with_items_is c.turn-range.new.self.met c.add_to-range.new.set (c.add_to-range.ensures.len ∙ c.deref_mut.ensures.len) in
      laws.met_next m (rw same c.pieces-test.true) (ap (λ xs. group_of (slice_index xs c.pieces.i)) same) _ _
      (record {
        few = m.made.few;
        preceding = m.made.preceding;
        left = m.made.left;
        met = ap length met ∙ c.add_to-range.ensures.len ∙ ap length c.deref_mut.ensures.value ∙ m.made.met;
        row = m.made.row;
        runs = m.made.runs;
      }) m.closed (rw met c.add_to-range.ensures.covers) (λ p.
      let are = laws.piece_members (slice_index c.args.after.now c.pieces.i) c.members_of.result c.word_of.result c.word_of.ensures c.members_of.ensures (λ r. (part_of b.e 0).follow p r) in
      let added = rw c.deref_mut.ensures.value at (c.add_to-range.ensures.added b.e p m.made.preceding) in
      rw (met, same) ((λ h. elim (added.0 h) [ inl old ↦ inl old | inr more ↦ inr (are.0 more) ]), (λ h. elim h [ inl old ↦ added.1 (inl old) | inr more ↦ added.1 (inr (are.1 more)) ])));
  first = λ none. absurd (omega (arith, none));
  last = λ some. ap (λ n. group_of (slice_index c.args.after.now n)) (let is : c.pieces.i + 1 - 1 ≡ c.pieces.i = omega arith in is);
}

pub returns-then-is_empty : goal.returns-then-is_empty
returns-then-is_empty c = λ b same none.
    let empty = eqb-true _ _ (sym (c.if-is_empty.ensures)) in
    let m = c.pieces.invariant.met b same none in
    let start = c.pieces.invariant.first (let le = m.within in omega (arith, le, ap length same, empty)) in
    let count : 0 ≡ b.count = elim (cases_lt 0 b.count) [ inl some ↦ absurd (let (q, (j, lt, is, at)) = (m.count 0).0 some in omega (arith, lt, ap length same, empty)) | inr ge ↦ omega (arith, ge) ] in
    (count, m.made, rw (start ∙ count) at m.closed)

-- a member was met
some : (n : ℕ) → (false ≡ eqb n 0) → 0 < n
some zero is = absurd (true≢false (sym is))
some (suc n) is = omega arith

pub overflow_add-result : goal.overflow_add-result
overflow_add-result c =
    let (b, same, none) = c.requires in
    let m = c.pieces.invariant.met b same none in
    let end : c.pieces.i ≡ length b.after = (let le = m.within in omega (arith, le, ap length same, c.pieces-test.false)) in
    let lt = some _ c.if-is_empty.ensures in
    let last = c.pieces.invariant.last (omega (arith, lt, end, ap length same)) in
    let less = (m.row.groups _).1 (laws.member b.after m.row.full (c.pieces.i - 1) (omega (arith, lt, end, ap length same))) in
    omega (arith, less, ap (λ xs. group_of (slice_index xs (c.pieces.i - 1))) same, last, laws.few_groups _ _ m.row.in_turn m.row.groups, m.row.few, m.made.few)

pub returns : goal.returns
returns c = λ b same none.
    let m = c.pieces.invariant.met b same none in
    let end : c.pieces.i ≡ length b.after = (let le = m.within in omega (arith, le, ap length same, c.pieces-test.false)) in
    let count = laws.all_met m end (let lt = some _ c.if-is_empty.ensures in omega (arith, lt, end, ap length same)) (rw same (c.pieces.invariant.last (let lt = some _ c.if-is_empty.ensures in omega (arith, lt, end, ap length same)))) in
    (omega (arith, count), c.close.ensures.made b.e m.made, rw (← count) at (c.close.ensures.closed b m.made m.closed (laws.is_met m (λ j ge less. absurd (omega (arith, ge, less, end))) (omega (arith, count)))))
