use Rattle.{std.specs.Prelude.vec_capacity, re_search.proofs.Prelude.{◌≡◌, ◌+◌, ◌*◌, ◌≤◌, false, length, take, AreSame, AreAllEnds, expressions_of}, re_auto.specs.Searches.AddsAtMost}
use Rattle.re_search.proofs.line_parts.put_ends.Given as goal

abbrev pub invariant-loop-matcher : goal.invariant-loop-matcher
invariant-loop-matcher l = record {
  right : AreAllEnds (record { expressions = take l.matcher-index (expressions_of l.fn.matchers); whole = false }) l.line l.ends;
  same_matchers : AreSame l.fn.matchers l.matchers;
  room : length l.ends ≡ length l.line;
  spare : vec_capacity l.fn.spare ≤ vec_capacity l.spare;
  steps : AddsAtMost (l.matcher-index * (length l.line + 1)) l.fn.meter l.meter;
}
