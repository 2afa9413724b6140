use Rattle.re_ends.proofs.Prelude.{arith, ap, sym, ◌∙◌, Some, slice_get-get_or}
use Rattle.re_ends.proofs.preceding.Preceding.add_row.Goals as goal

pub returns-clause-covers : goal.returns-clause-covers
returns-clause-covers c =
    let (e, made, less, len) = c.requires.made in
    c.joined.ensures c.args.set.now c.row-row.result.now c.add_within.new.into c.requires.covers
    (rw c.row-row.ensures.is (rw c.deref.ensures.value (made.ranges.1 c.args.q c.index-more.result.now (slice_get-get_or c.args.self.now.ranges.items c.args.q c.index-more.result.now (omega (arith, made.ranges.0, less)) ∙ ap Some (sym c.index-more.ensures)))))
    c.add_within.ensures.len (omega (arith, c.add_within.ensures.len, c.row-row.ensures.len, len, made.width)) (λ q. (c.add_within.ensures.added q).0)
