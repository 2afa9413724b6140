use Rattle.grep_session.proofs.Prelude.{ℕ, ◌<◌, ◌≤◌, [], length, map, get_or, AddsAtMost, line_text, no_line, is_paired, is_parted, marked_cost, numbers_at, parting, ArePartsAgain, has_new_parts, AreSame, matched_expression}
use Rattle.grep_session.proofs.line_parts.find_parts.Given as goal

-- the parts of the first lines are there
abbrev pub invariant-loop-k : goal.invariant-loop-k
invariant-loop-k l = record {
  high : l.k ≤ length l.chunk;
  few : length l.parts ≤ l.k;
  found : (i : ℕ) → i < l.k → ArePartsAgain (is_paired i l.new) (has_new_parts l.fn.change (numbers_at i l.old) (numbers_at i l.new)) (map matched_expression l.fn.matchers) l.search.options (get_or l.chunk i no_line) (get_or l.parts i []);
  same_matchers : AreSame l.fn.matchers l.matchers;
  steps : AddsAtMost (marked_cost (is_parted l.fn.change l.old l.new) (parting (map matched_expression l.fn.matchers) l.search.options) (map line_text l.chunk) l.k) l.fn.meter l.meter;
}
