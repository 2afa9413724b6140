use Rattle.re_auto.proofs.{Prelude.{arith, ◌≡◌, ◌+◌, ◌*◌, inl, Has, row_of}, lemmas.BitLemmas.{one_added, chained}}
use Rattle.re_auto.proofs.build.rows.cross_word.Goals as goal

pub add_to_row-requires-clause-room : goal.add_to_row-requires-clause-room
add_to_row-requires-clause-room c =
    let low = c.take_lowest-bit.ensures in
    rw c.bits.invariant.0 (c.requires.rows _ low.small (c.bits.invariant.1 _ low.small low.held))

pub bits-preserved : goal.bits-preserved
bits-preserved c =
    let low = c.take_lowest-bit.ensures in (
      omega arith,
      (λ b lt h. c.bits.invariant.1 b lt ((low.rest b lt).1 (inl h))),
      λ x q within. chained (one_added (Has (row_of c.bits.follow c.args.width x) q) (Has (row_of c.add_to_row.new.table c.args.width x) q)
          (λ b. (x ≡ c.args.k * 64 + b) × Has c.args.first.now q) c.bits.left _ c.take_lowest-bit.result low.small (c.add_to_row.ensures.added x q (rw c.bits.invariant.0 within)) low.rest)
          (c.bits.invariant.2 x q within),
    )
