use Rattle.{re_ends.proofs.Prelude.{arith, inl, inr, length, refl, ◌≡◌, expression_of, cases_lt}, re_auto.proofs.lemmas.{FillingLemmas.none_in_row, Numbered.part_numbered, RowLemmas.row_within}}
use Rattle.re_ends.proofs.preceding.turn.Goals as goal

pub positions-init : goal.positions-init
positions-init c = record {
  only = refl;
  len = refl;
  turned = λ x q lt. ((λ h. absurd (none_in_row c.args.rows.now (length c.args.only.now) x q c.requires.none h)), (λ h. absurd (omega (arith, h.0))));
}

pub positions-preserved : goal.positions-preserved
positions-preserved c = record {
  only = omega (arith, c.clear.ensures.len, c.insert.ensures.len, c.positions.invariant.only);
  len = omega (arith, c.cross_rows.ensures.len, c.positions.invariant.len);
  turned = λ x q lt.
      let added = c.cross_rows.ensures.added x q (rw (c.positions.invariant.len, c.requires.len) (row_within x _ (length c.args.only.now) lt)) in
      let was = c.positions.invariant.turned x q lt in (
        (λ h. elim (added.0 h) [
          | inl old ↦ let both = was.0 old in (omega (arith, both.0), both.1)
          | inr more ↦ elim ((c.insert.ensures.inserted q).0 more.1) [
            | inl none ↦ absurd (c.clear.ensures.none q none)
            | inr same ↦ (omega (arith, same), rw same ((c.following.ensures.1 x).0 more.0))
          ]
        ]),
        (λ h. elim (cases_lt q c.positions.p) [
          | inl less ↦ added.1 (inl (was.1 (less, h.1)))
          | inr ge ↦ let same : q ≡ c.positions.p = omega (arith, ge, h.0) in added.1 (inr ((c.following.ensures.1 x).1 (rw same at h.1), (c.insert.ensures.inserted q).1 (inr same)))
        ]),
      );
}

pub cross_rows-requires-clause-rows : goal.cross_rows-requires-clause-rows
cross_rows-requires-clause-rows c = λ x h.
    let small = (part_numbered (expression_of c.args.automaton.now) 0).follow c.positions.p x ((c.following.ensures.1 x).0 h) in
    rw (c.positions.invariant.len, c.requires.len) (row_within x _ (length c.args.only.now) (omega (arith, small.3)))

pub returns-clause-turned : goal.returns-clause-turned
returns-clause-turned c = λ x q lt.
    let is = c.positions.invariant.turned x q lt in
    ((λ h. (is.0 h).1), (λ h. is.1 (let small = (part_numbered (expression_of c.args.automaton.now) 0).follow q x h in omega (arith, small.1, c.positions-test.false), h)))
