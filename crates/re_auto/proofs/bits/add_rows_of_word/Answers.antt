use Rattle.re_auto.proofs.{Prelude.{arith, ◌+◌, ◌*◌, length, inl, refl, slice_get-get_or, Has, row_of}, lemmas.BitLemmas.{one_added, none_left, chained}}
use Rattle.re_auto.proofs.bits.add_rows_of_word.Goals as goal

pub row-requires : goal.row-requires
row-requires c =
    let low = c.take_lowest-bit.ensures in
    c.requires.rows _ low.small (c.bits.invariant.2 _ low.small low.held)

pub bits-preserved : goal.bits-preserved
bits-preserved c =
    let low = c.take_lowest-bit.ensures in (
      omega arith,
      refl,
      (λ b lt h. c.bits.invariant.2 b lt ((low.rest b lt).1 (inl h))),
      λ q. chained (one_added (Has c.bits.into q) (Has c.add_within.new.into q) (λ b. Has (row_of c.args.table.now (length c.args.into.now) (c.args.k * 64 + b)) q)
          c.bits.left _ c.take_lowest-bit.result low.small (rw c.row.ensures.is at (c.add_within.ensures.added q)) low.rest) (c.bits.invariant.3 q),
    )

pub bounds-ranges-p : goal.bounds-ranges-p
bounds-ranges-p c =
    let low = c.take_lowest-bit.ensures in
    c.requires.named _ low.small (c.bits.invariant.2 _ low.small low.held)

pub add_within-requires-clause-same : goal.add_within-requires-clause-same
add_within-requires-clause-same c = omega arith

pub add_within-requires-clause-covers : goal.add_within-requires-clause-covers
add_within-requires-clause-covers c =
    let low = c.take_lowest-bit.ensures in
    rw c.row.ensures.is (c.requires.covered.1 _ _ (slice_get-get_or c.args.ranges.now _ _ (c.requires.named _ low.small (c.bits.invariant.2 _ low.small low.held))))

pub returns-clause-added : goal.returns-clause-added
returns-clause-added c = λ q. none_left (Has c.bits.into q) _ (λ b. Has (row_of c.args.table.now (length c.args.into.now) (c.args.k * 64 + b)) q) c.bits.left (omega arith) (c.bits.invariant.3 q)
