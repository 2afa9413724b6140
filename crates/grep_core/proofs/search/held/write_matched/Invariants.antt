use Rattle.{grep_core.proofs.{Prelude.{◌*◌, ◌-◌, length, Text, AreSame, expressions_of, sought_of, IsSought, GoesOut}, lemmas.MatchedLemmas.RunsTo}, re_search.specs.Searches.AddsAtMost}
use Rattle.grep_core.proofs.search.held.write_matched.Given as goal

-- the matched lines before `start` were written, but for the run of them that ends there
abbrev pub invariant-lines : goal.invariant-lines
invariant-lines g l = record {
  writes : (sent : Text) × RunsTo (IsSought (sought_of l.whole l.fn.matchers)) l.block l.run l.start l.found sent × GoesOut g.W.CountedWrite.contents g.W.CountedWrite.failures l.fn.out l.out sent;
  same : AreSame l.fn.matchers l.matchers;
  steps : AddsAtMost (length (expressions_of l.fn.matchers) * l.start) l.fn.meter l.meter;
}

abbrev pub decreases-lines : goal.decreases-lines
decreases-lines g l = length l.block - l.start
