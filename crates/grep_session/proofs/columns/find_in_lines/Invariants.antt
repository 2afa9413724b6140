use Rattle.{grep_session.proofs.Prelude.{◌≡◌, map, take, All, IsKept, all_of, line_text, AreSame, HasChanged, SearchesEach, AddsColumns, matched_expression}, std.specs.Prelude.vec_capacity}
use Rattle.grep_session.proofs.columns.find_in_lines.Given as goal

-- the first chunks were searched
abbrev pub invariant-loop-i : goal.invariant-loop-i
invariant-loop-i l = record {
  found : AddsColumns l.fn.change (map matched_expression l.fn.matchers.items) l.search.options (take l.i l.lines) l.fn.found.items l.found.items;
  same_matchers : AreSame l.fn.matchers.items l.matchers.items;
  room : vec_capacity l.matchers ≡ vec_capacity l.fn.matchers;
  steps : (h : HasChanged l.fn.change (map matched_expression l.fn.matchers.items) l.search.options) → All (IsKept h.before h.was) (all_of l.lines)
      → SearchesEach l.fn.change h.gone h.come (map matched_expression l.fn.matchers.items) l.search.options (map line_text (all_of (take l.i l.lines))) l.fn.meter l.meter;
}
