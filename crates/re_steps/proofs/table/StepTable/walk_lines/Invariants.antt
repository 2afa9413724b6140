use Rattle.re_steps.proofs.Prelude.{length, ◌-◌, ◌≡◌, GoesOverLines}
use Rattle.re_steps.proofs.table.StepTable.walk_lines.Given as goal

abbrev pub invariant-places : goal.invariant-places
invariant-places l = record {
  classes : l.classes ≡ l.fn.self.classes.items;
  cells : l.cells ≡ l.fn.self.pairs.cells;
  marks : l.marks ≡ l.fn.self.marks.items;
  goes : GoesOverLines l.asked l.fn.self l.lines;
}

abbrev pub decreases-places : goal.decreases-places
decreases-places l = length l.block - l.lines.place
