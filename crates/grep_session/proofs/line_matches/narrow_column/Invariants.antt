use Rattle.grep_session.proofs.{Prelude.{◌≤◌, length, map, line_text, AddsAtMost, had_gone, marked_cost, matched_expression, wants_whole, IsSame}, lemmas.ColumnLoops.ColumnSoFar}
use Rattle.grep_session.proofs.line_matches.narrow_column.Given as goal

-- the lines before `k` were searched
abbrev pub invariant-loop-k : goal.invariant-loop-k
invariant-loop-k l = record {
  high : l.k ≤ length l.chunk;
  column : ColumnSoFar (had_gone l.fn.change l.old) (matched_expression l.fn.matcher) (wants_whole l.fn.matcher) l.number (map line_text l.chunk) l.k l.fn.matches l.matches;
  same : IsSame l.fn.matcher l.matcher;
  steps : AddsAtMost (marked_cost (had_gone l.fn.change l.old) 1 (map line_text l.chunk) l.k) l.fn.meter l.meter;
}
