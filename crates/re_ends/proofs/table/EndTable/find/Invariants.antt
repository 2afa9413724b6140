use Rattle.re_ends.{proofs.Prelude.{◌≡◌, ◌+◌, ◌≤◌, length, expression_of}, specs.Working.EndTables.{piece, IsAt, IsFirstFrom}}
use Rattle.re_ends.proofs.table.EndTable.find.Given as goal

-- the pass is at this place, and the first stretch from it on is known
abbrev pub invariant-pieces : goal.invariant-pieces
invariant-pieces l = record {
  at : IsAt l.asked l.self.pass l.seen.spot;
  room : length l.self.room.items ≡ piece;
  start : l.window.start ≤ l.seen.spot.place;
  found : IsFirstFrom (expression_of l.asked.automaton.now) l.asked.line.now l.seen.spot.place l.window.end l.seen.first;
  counted : l.built + l.seen.spot.place ≤ l.window.end;
}

abbrev pub decreases-pieces : goal.decreases-pieces
decreases-pieces l = l.seen.spot.place
