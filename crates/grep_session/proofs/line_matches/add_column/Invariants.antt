use Rattle.grep_session.proofs.{Prelude.{true, ◌-◌, ◌≤◌, length, map, take, terminated, AddsAtMost, line_text, matched_expression, wants_whole, IsSame}, lemmas.ColumnLoops.ColumnSoFar}
use Rattle.grep_session.proofs.line_matches.add_column.Given as goal

-- the lines before `from` were searched
abbrev pub invariant-loop-from : goal.invariant-loop-from
invariant-loop-from l = record {
  within : l.from ≤ length l.chunk;
  column : ColumnSoFar (λ k. true) (matched_expression l.fn.matcher) (wants_whole l.fn.matcher) l.number (map line_text l.chunk) l.from l.fn.matches l.matches;
  same : IsSame l.fn.matcher l.matcher;
  steps : AddsAtMost (length (terminated (take l.from (map line_text l.chunk)))) l.fn.meter l.meter;
}

abbrev pub decreases-loop-from : goal.decreases-loop-from
decreases-loop-from l = length l.chunk - l.from
