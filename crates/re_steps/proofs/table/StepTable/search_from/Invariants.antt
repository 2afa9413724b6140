use Rattle.re_steps.proofs.Prelude.{length, ◌-◌, ◌≤◌, Stage, IsRightFor, IsRow, Lasts, IsAt}
use Rattle.re_steps.proofs.table.StepTable.search_from.Given as goal

abbrev pub invariant-places : goal.invariant-places
invariant-places l = record {
  within : l.spot.place ≤ length l.asked.line.now;
  right : IsRightFor l.asked l.self;
  row : IsRow l.self l.spot.row;
  lasts : Lasts l.asked l.fn.self l.self;
  comes : (first : Stage) → IsAt l.asked first l.fn.self l.fn.meter l.fn.from.place l.fn.from.row → IsAt l.asked first l.self l.meter l.spot.place l.spot.row;
}

abbrev pub decreases-places : goal.decreases-places
decreases-places l = length l.asked.line.now - l.spot.place
