use Rattle.{re_search.proofs.Prelude.{◌*◌, ◌-◌, length, AreSame, expressions_of, sought_of, IsSought}, re_auto.specs.Searches.AddsAtMost, re_runs.proofs.lemmas.NextLines.CountsTo}
use Rattle.re_search.proofs.several.count_matched.Given as goal

-- the lines before the rest were counted
abbrev pub invariant-lines : goal.invariant-lines
invariant-lines l = record {
  counts : CountsTo (IsSought (sought_of l.whole l.fn.matchers)) l.block l.rest l.count;
  same : AreSame l.fn.matchers l.matchers;
  steps : AddsAtMost (length (expressions_of l.fn.matchers) * (length l.block - length l.rest)) l.fn.meter l.meter;
}

abbrev pub decreases-lines : goal.decreases-lines
decreases-lines l = length l.rest
