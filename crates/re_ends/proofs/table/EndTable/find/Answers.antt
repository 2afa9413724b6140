use Rattle.re_ends.proofs.Prelude.{arith, refl, inl, inr, ◌≡◌}
use Rattle.re_ends.proofs.table.EndTable.find.Goals as goal

pub pieces-init : goal.pieces-init
pieces-init c = record {
  at = c.begin-spot.ensures.at;
  room = c.requires.made.room;
  start = omega (arith, c.begin-spot.ensures.place, c.requires.low);
  found = inl (refl, λ i m le lt p. omega (arith, le, lt, c.begin-spot.ensures.place));
  counted = omega (arith, c.begin-spot.ensures.place);
}

pub pieces-preserved : goal.pieces-preserved
pieces-preserved c = record {
  at = c.look_back-seen.ensures.at;
  room = c.look_back-seen.ensures.room;
  start = c.look_back-seen.ensures.start;
  found = c.look_back-seen.ensures.found c.args.window.end (omega (arith, c.pieces.invariant.counted)) c.pieces.invariant.found;
  counted = omega (arith, c.look_back-seen.ensures.counted, c.pieces.invariant.counted);
}

pub returns-then-seen-eq0-clause-found : goal.returns-then-seen-eq0-clause-found
returns-then-seen-eq0-clause-found c =
    let there : c.pieces.seen.spot.place ≡ c.args.window.start = omega (arith, c.pieces-test.false, c.pieces.invariant.start) in
    elim (rw there at c.pieces.invariant.found) [ inl none ↦ none.1 | inr some ↦ absurd (omega (arith, some.0, c.if-seen-eq0.true)) ]

pub returns-clause-found : goal.returns-clause-found
returns-clause-found c =
    let there : c.pieces.seen.spot.place ≡ c.args.window.start = omega (arith, c.pieces-test.false, c.pieces.invariant.start) in
    elim (rw there at c.pieces.invariant.found) [ inl none ↦ absurd (c.if-seen-eq0.false none.0) | inr some ↦ some.1 ]
