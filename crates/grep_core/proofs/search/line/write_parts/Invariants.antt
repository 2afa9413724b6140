use Rattle.grep_core.proofs.{Prelude.{◌-◌, ◌*◌, ◌≤◌, length, AddsAtMost, AreSame, sought_of, ArePartsOf, spent, writer, expressions_of}, lemmas.PartsLemmas.PartsSoFar}
use Rattle.grep_core.proofs.search.line.write_parts.Given as goal

-- the parts up to here were written
abbrev pub invariant-loop-part : goal.invariant-loop-part
invariant-loop-part g l = record {
  parts : PartsSoFar (expressions_of l.fn.matchers) l.request.options l.request.many l.request.name.now l.number l.line l.from
      (writer g.W.CountedWrite.contents g.W.CountedWrite.failures l.fn.out) (writer g.W.CountedWrite.contents g.W.CountedWrite.failures l.out);
  room : length l.line ≤ l.line_parts.room;
  right : ArePartsOf (sought_of l.request.options.line_regexp l.fn.matchers) l.line l.from l.line_parts;
  steps : AddsAtMost (length (expressions_of l.fn.matchers) * spent l.line_parts.seen) l.fn.meter l.meter;
  same : AreSame l.fn.matchers l.matchers;
}

abbrev pub decreases-loop-part : goal.decreases-loop-part
decreases-loop-part g l = length l.line - l.from
