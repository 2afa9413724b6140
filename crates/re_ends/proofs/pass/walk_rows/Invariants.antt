use Rattle.re_ends.{proofs.Prelude.{◌≡◌, ◌<◌, ◌≤◌, length, expression_of}, specs.Working.EndTables.{Adds, IsAtRow}}
use Rattle.re_ends.proofs.pass.walk_rows.Given as goal

-- the pass is at this place, and those from it on have their ends
abbrev pub invariant-places : goal.invariant-places
invariant-places l = record {
  at : IsAtRow (expression_of l.asked.automaton.now) l.asked.line.now l.steps l.list l.place l.row;
  on : l.place ≤ l.fn.from.place;
  stop : l.stop ≤ l.place;
  some : 0 < l.place;
  len : length l.ends ≡ length l.fn.ends;
  most : l.list.most ≡ l.fn.list.most;
  added : Adds l.asked l.stop l.fn.from.place l.place l.fn.ends l.ends;
}

abbrev pub decreases-places : goal.decreases-places
decreases-places l = l.place
