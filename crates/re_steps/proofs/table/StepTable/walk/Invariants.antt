use Rattle.re_steps.proofs.Prelude.{length, ◌-◌, ◌≡◌, ◌≤◌, Steps, Stage, IsRow, walked, IsAt}
use Rattle.re_steps.proofs.table.StepTable.walk.Given as goal

abbrev pub invariant-places : goal.invariant-places
invariant-places l = record {
  classes : l.classes ≡ l.self.classes.items;
  cells : l.cells ≡ l.self.pairs.cells;
  low : l.fn.from.place ≤ l.place;
  high : l.place ≤ length l.asked.line.now;
  row : IsRow l.self l.row;
  comes : (first : Stage) (steps : Steps) → IsAt l.asked first l.self steps l.fn.from.place l.fn.from.row → IsAt l.asked first l.self (walked (l.place - l.fn.from.place) steps) l.place l.row;
}

abbrev pub decreases-places : goal.decreases-places
decreases-places l = length l.asked.line.now - l.place
