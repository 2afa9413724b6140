use Rattle.grep_session.proofs.{Prelude.{◌-◌, ◌*◌, ◌≤◌, map, length, AddsAtMost, ArePartsOf, AreSame, spent, matched_expression}, lemmas.FindingLemmas.SpansSoFar}
use Rattle.grep_session.proofs.search.parts_of.Given as goal

-- the parts up to here are known
abbrev pub invariant-loop-part : goal.invariant-loop-part
invariant-loop-part l = record {
  parts : SpansSoFar (map matched_expression l.fn.matchers) l.search.options l.line l.from l.spans.items;
  room : length l.line ≤ l.line_parts.room;
  right : ArePartsOf (record { expressions = map matched_expression l.fn.matchers; whole = l.search.options.line_regexp }) l.line l.from l.line_parts;
  steps : AddsAtMost (length l.fn.matchers * spent l.line_parts.seen) l.fn.meter l.meter;
  same_matchers : AreSame l.fn.matchers l.matchers;
}

abbrev pub decreases-loop-part : goal.decreases-loop-part
decreases-loop-part l = length l.line - l.from
