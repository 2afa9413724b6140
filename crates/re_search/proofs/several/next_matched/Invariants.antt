use Rattle.{re_search.proofs.Prelude.{◌*◌, ◌-◌, ◌≤◌, length, AreSame, expressions_of, sought_of, PassesUnsought}, re_auto.specs.Searches.AddsAtMost}
use Rattle.re_search.proofs.several.next_matched.Given as goal

-- the lines before the place were searched, and none is matched
abbrev pub invariant-lines : goal.invariant-lines
invariant-lines l = record {
  within : l.start ≤ length l.block;
  passed : PassesUnsought (sought_of l.whole l.fn.matchers) l.block l.start;
  same : AreSame l.fn.matchers l.matchers;
  steps : AddsAtMost (length (expressions_of l.fn.matchers) * l.start) l.fn.meter l.meter;
}

abbrev pub decreases-lines : goal.decreases-lines
decreases-lines l = length l.block - l.start
