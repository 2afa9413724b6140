use Rattle.re_ends.proofs.Prelude.{arith, ap, length, ℕ, ◌∙◌, ◌*◌, ◌<◌, ◌↔◌, expression_of, part_of, positions, Has, row_of, with_items_is}
use Rattle.re_ends.proofs.preceding.Preceding.of.Goals as goal

pub returns : goal.returns
returns c =
    let width = length c.taking-width.result.now in
    let rows = with_items_is c.in_ok-rows.rows c.turn.new.rows (c.turn.ensures.len ∙ c.deref_mut-2.ensures.len) in
    let chained = with_items_is c.in_ok-chained.chained c.add_chained.new.chained (c.add_chained.ensures.len ∙ c.deref_mut-3.ensures.len) in
    let turned : (q r : ℕ) → q < positions (expression_of c.args.automaton.now) → Has (row_of c.turn.new.rows width q) r ↔ (part_of (expression_of c.args.automaton.now) 0).follow r q = λ q r lt.
    rw (ap length c.deref_mut.ensures.value, c.in_ok-only.ensures.0) at (c.turn.ensures.turned q r lt) in
    record {
      chained = (
        ap length chained ∙ c.add_chained.ensures.len ∙ ap length c.deref_mut-3.ensures.value ∙ c.in_ok-chained.ensures.0,
        λ q r h.
            let right = c.add_chained.ensures.right q r (rw chained at h) in
            let follow = turned q r (omega (arith, right.0, ap length c.deref-3.ensures.value, c.in_ok-ranges.ensures.0, c.size-size.ensures)) in
            let row = rw (c.deref-2.ensures.value, rows, ap length c.deref_mut-3.ensures.value, c.in_ok-chained.ensures.0) at right.1 in
            ((λ f. row.0 (follow.1 f)), (λ same. follow.0 (row.1 same))),
      );
      width = c.taking-width.ensures.0;
      rows = (ap length rows ∙ c.turn.ensures.len ∙ ap length c.deref_mut-2.ensures.value ∙ c.in_ok-rows.ensures.0 ∙ ap (λ n. n * width) c.size-size.ensures, λ q r lt. rw rows (turned q r lt));
      ranges = rw (← c.deref.ensures.value, ← c.size-size.ensures) c.in_ok-ranges.ensures;
    }
