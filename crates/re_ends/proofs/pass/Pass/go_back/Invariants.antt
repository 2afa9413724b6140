use Rattle.re_ends.{proofs.Prelude.{◌+◌, ◌≤◌, expression_of}, specs.Working.EndTables.{IsAt, AddsFrom}}
use Rattle.re_ends.proofs.pass.Pass.go_back.Given as goal

-- the pass is at this place, and those from it on have their ends
abbrev pub invariant-places : goal.invariant-places
invariant-places l = record {
  at : IsAt l.asked l.self l.spot;
  stop : l.stop ≤ l.spot.place;
  on : l.spot.place ≤ l.fn.from.place;
  added : AddsFrom (expression_of l.asked.automaton.now) l.asked.line.now l.stop l.fn.from.place l.spot.place l.fn.ends l.ends;
  counted : l.built + l.spot.place ≤ l.fn.built + l.fn.from.place;
}

abbrev pub decreases-places : goal.decreases-places
decreases-places l = l.spot.place
