use Rattle.gaxtrel.proofs.{Prelude.{◌-◌, ◌*◌, length, AddsAtMost, AreSame, expressions_of, sought_of}, LineLemmas.LinesSoFar}
use Rattle.gaxtrel.proofs.text_lines.put_lines.Given as goal

-- the first lines were found and written
abbrev pub invariant-loop-count : goal.invariant-loop-count
invariant-loop-count l = record {
  found : LinesSoFar (sought_of l.whole l.fn.matchers) l.text l.from l.fn.number l.at l.number l.count l.fn.lines l.lines;
  same : AreSame l.fn.matchers l.matchers;
  steps : AddsAtMost (length (expressions_of l.fn.matchers) * (l.at - l.from)) l.fn.meter l.meter;
}

abbrev pub decreases-loop-count : goal.decreases-loop-count
decreases-loop-count l = length l.fn.lines - l.count
