use Rattle.re_ends.proofs.{Prelude.{arith, inl, inr, ◌∙◌}, preceding.add_chained.Goals.{then-is_only, else-is_only}}
use Rattle.re_ends.proofs.preceding.add_chained.Goals as goal

pub positions-preserved : goal.positions-preserved
positions-preserved c = elim c.if-is_only.branch [
  | then-is_only w ↦ rw w.chained-is (record {
    len = w.insert.ensures.len ∙ c.positions.invariant.len;
    right = λ q p h. elim ((w.insert.ensures.inserted q).0 h) [
      | inl old ↦ c.positions.invariant.right q p old
      | inr same ↦
          let is = c.is_only.ensures w.if-is_only.true p in
          rw same
          (omega (arith, c.positions-test.true), ((λ here. let at = is.0 (rw c.row.ensures.is here) in omega (arith, at)), (λ at. rw c.row.ensures.is at (is.1 (omega (arith, at))))))
    ];
  })
  | else-is_only w ↦ rw w.chained-is c.positions.invariant
]
