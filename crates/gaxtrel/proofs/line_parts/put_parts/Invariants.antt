use Rattle.{gaxtrel.proofs.{Prelude.{◌+◌, ◌*◌, ◌-◌, ◌≤◌, length, sought_of, AddsAtMost, AreSame, expressions_of, AreParts}, ArrayLemmas.PutSoFar}, re_search.specs.Working.LineParts.{ArePartsOf, spent}}
use Rattle.gaxtrel.proofs.line_parts.put_parts.Given as goal

-- the parts up to here were found and written
abbrev pub invariant-loop-part : goal.invariant-loop-part
invariant-loop-part l = record {
  found : PutSoFar (AreParts (sought_of l.whole l.fn.matchers) l.line l.from) (AreParts (sought_of l.whole l.fn.matchers) l.line l.at) l.count l.fn.parts l.parts;
  few : l.from + l.count ≤ l.at;
  on_line : l.at ≤ length l.line;
  room : length l.line ≤ l.learned.room;
  right : ArePartsOf (sought_of l.whole l.fn.matchers) l.line l.at l.learned;
  same : AreSame l.fn.matchers l.matchers;
  steps : AddsAtMost (length (expressions_of l.fn.matchers) * spent l.learned.seen) l.fn.meter l.meter;
}

abbrev pub decreases-loop-part : goal.decreases-loop-part
decreases-loop-part l = length l.line - l.at
