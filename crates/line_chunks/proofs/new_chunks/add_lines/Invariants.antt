use Rattle.line_chunks.proofs.Prelude.{◌≤◌, ◌-◌, take, drop, AddsLines}
use Rattle.line_chunks.proofs.new_chunks.add_lines.Given as goal

abbrev pub invariant-loop-at : goal.invariant-loop-at
invariant-loop-at l = record {
  more : l.from ≤ l.at;
  within : l.at ≤ l.to;
  lines : AddsLines l.filling.limit l.fn.fresh.items (take (l.at - l.from) (drop l.from l.chunk)) l.fresh.items;
}

abbrev pub decreases-loop-at : goal.decreases-loop-at
decreases-loop-at l = l.to - l.at
