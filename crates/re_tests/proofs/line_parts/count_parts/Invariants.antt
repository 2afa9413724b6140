use Rattle.{std.proofs.Common.{false, ◌≤◌, ◌-◌, length}, re_search.specs.Working.{Matchers.AreAlike, Sought.sought_of, LineParts.ArePartsOf}}
use Rattle.re_tests.proofs.line_parts.count_parts.Given as goal

-- what is known of the line is right
abbrev pub invariant-loop-part : goal.invariant-loop-part
invariant-loop-part g l = record {
  within : l.from ≤ length l.line;
  few : l.count ≤ l.from;
  room : length l.line ≤ l.line_parts.room;
  right : ArePartsOf (sought_of false l.matchers) l.line l.from l.line_parts;
  matchers : AreAlike false l.matchers;
  others : AreAlike false l.others;
}

abbrev pub decreases-loop-part : goal.decreases-loop-part
decreases-loop-part g l = length l.line - l.from
