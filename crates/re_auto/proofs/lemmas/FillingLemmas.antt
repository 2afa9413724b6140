-- The tables of an expression, from blank rows to what they say.
use Rattle.re_auto.proofs.{Prelude.{◌≡◌, ℕ, ◌+◌, ◌-◌, ◌*◌, ◌/◌, ◌%◌, ◌<◌, ◌≤◌, Bool, List, length-take, drop, ◌↔◌, sym, ap, ◌∙◌, trans, arith, get_or-take, get_or-drop, Global, Vec, Expression, positions, most_positions, Classes, Ends, Rows, WordRange, Has, row_of, part_of, CoverRows, Marks, AreTablesOf, IsAddedOf, AreBlankRows, AreClasses}, lemmas.{BitLemmas.within, RowLemmas.row_within}}

-- a row of a table without members has none
pub none_in_row : (table : List ℕ) (width p q : ℕ) → ((e : ℕ) → ¬ Has table e) → ¬ Has (row_of table width p) q
unfolding Has
none_in_row table width p q none h =
    let start = p * width in
    let lt : q / 64 < start + width - start = (let l = within (row_of table width p) q h in omega (arith, length-take (start + width - start) (drop start table))) in
    let word = get_or-take (start + width - start) (drop start table) (q / 64) 0 lt ∙ get_or-drop start table (q / 64) 0 in
    let at : (start * 64 + q) / 64 ≡ start + q / 64 = omega arith in
    let bit : (start * 64 + q) % 64 ≡ q % 64 = omega arith in
    none (start * 64 + q) (rw (at, bit) (sym (rw word) ∙ h))

-- what was added to blank rows is all that the tables say
pub reported_too : (e : Expression) (count : ℕ) (r0 r1 : Rows) (a : Ends) (classes : Classes) (marks : List Bool) (ranges : Vec WordRange Global) → count ≡ positions e → count ≤ most_positions → AreBlankRows count r0 → IsAddedOf e count r0 r1 a →
    AreClasses r1.takes.items r1.width classes →
    Marks marks (λ c. (q : ℕ) × Has a.first_inside.items q × Has (row_of r1.takes.items r1.width c) q) →
    CoverRows ranges.items r1.follow.items count r1.width →
    AreTablesOf e (record {
      size = count;
      width = r1.width;
      class_of = classes.class_of;
      takes = classes.takes;
      follow = r1.follow;
      ranges = ranges;
      first_at_begin = a.first_at_begin;
      first_inside = a.first_inside;
      last_at_end = a.last_at_end;
      last_inside = a.last_inside;
      empty = a.empty;
      beginnings = marks;
    })
reported_too e count r0 r1 a classes marks ranges is few blank added classed meeting covered =
    let begins : a.begins ≡ 0 = omega arith in
    let part = part_of e 0 in
    let adds = rw begins at added.adds in
    let shows = rw (← adds.width) at (rw begins at added.shows) in
    let takes : (c q : ℕ) → c < 256 → Has (row_of r1.takes.items r1.width c) q ↔ part.takes q c = λ c q lt. rw adds.width (trans (adds.takes c q lt) (grind (arith, none_in_row r0.takes.items r0.width c q blank.takes))) in
    record {
      size = is;
      width = cc (adds.width, blank.width);
      few = omega arith;
      taken = record { classes = classed.bytes; within = classed.within; takes = λ c q lt. rw (classed.same c lt) (takes c q lt) };
      follow = (
        adds.follow_length ∙ blank.follow_length ∙ ap (λ n. n * r0.width) is ∙ ap (λ w. positions e * w) (sym adds.width),
        λ p q lt. rw adds.width (trans (adds.follow p q (rw blank.follow_length (row_within p count r0.width (omega arith)))) (grind (arith, none_in_row r0.follow.items r0.width p q blank.follow))),
      );
      ranges = rw is at covered;
      first_at_begin = shows.first_at_begin;
      first_inside = shows.first_inside;
      last_at_end = shows.last_at_end;
      last_inside = shows.last_inside;
      empty = shows.empty;
      beginnings = (
        meeting.0,
        λ c lt. trans (meeting.1 c lt) ((λ h. (h.0, (shows.first_inside.1 h.0).0 h.1, (takes c h.0 lt).0 h.2)), (λ h. (h.0, (shows.first_inside.1 h.0).1 h.1, (takes c h.0 lt).1 h.2))),
      );
    }
