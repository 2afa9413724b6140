use Rattle.grep_session.proofs.Prelude.{ℕ, ◌+◌, ◌-◌, ◌*◌, ◌≤◌, List, length, map, take, drop, AddsAtMost, AreSame, line_text, AddsColumn, AreLeft, is_sought, marked_cost, matched_expression}
use Rattle.grep_session.proofs.line_matches.find_matches.Given as goal

-- the lines that the matchers before `number` match were added
abbrev pub invariant-loop-number : goal.invariant-loop-number
invariant-loop-number l = record {
  low : l.fn.change.first ≤ l.number;
  high : l.number ≤ l.fn.change.first + l.fn.change.come;
  found : (left : List (ℕ × ℕ)) × AreLeft l.fn.change (length (map line_text l.chunk)) l.old left
      × AddsColumn (is_sought l.fn.change l.old) (map line_text l.chunk) l.search.options.line_regexp l.fn.change.first (drop l.fn.change.first (take l.number (map matched_expression l.fn.matchers))) left l.matches;
  same_matchers : AreSame l.fn.matchers l.matchers;
  steps : AddsAtMost ((l.number - l.fn.change.first) * marked_cost (is_sought l.fn.change l.old) 1 (map line_text l.chunk) (length l.chunk)) l.fn.meter l.meter;
}
