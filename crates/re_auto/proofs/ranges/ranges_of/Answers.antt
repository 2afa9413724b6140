use Rattle.re_auto.proofs.{Prelude.{◌≡◌, ◌++◌, ◌∷◌, [], length, length-append, ap, arith, rules, row_of, Covers}, lemmas.{RangeLemmas.one_more, RowLemmas.row_within}}
use Rattle.re_auto.proofs.ranges.ranges_of.Goals as goal

pub row-requires : goal.row-requires
row-requires c = rw c.requires.table (row_within c.rows.r c.args.rows c.args.width (omega arith))

pub range_of-requires : goal.range_of-requires
range_of-requires c = omega arith

pub rows-preserved : goal.rows-preserved
rows-preserved c =
    let items : c.push.new.self.items ≡ c.rows.ranges.items ++ (c.range_of.result ∷ []) = search rules in
    let covers : Covers c.range_of.result (row_of c.args.table.now c.args.width (length c.rows.ranges.items)) = rw (c.rows.invariant.0, ← c.row.ensures.is) c.range_of.ensures in (
      omega (arith, ap length items, length-append c.rows.ranges.items (c.range_of.result ∷ [])),
      rw items (one_more (λ r range. Covers range (row_of c.args.table.now c.args.width r)) c.rows.ranges.items c.range_of.result c.rows.invariant.1 covers),
    )
