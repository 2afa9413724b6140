use Rattle.{grep_core.proofs.{Prelude.{◌*◌, ◌-◌, length, true, Text, AreSame, expressions_of, sought_of, IsChosen, GoesOut}, lemmas.MatchedLemmas.SentTo}, re_search.specs.Searches.AddsAtMost}
use Rattle.grep_core.proofs.search.held.write_others.Given as goal

-- the other lines before `start` were written
abbrev pub invariant-lines : goal.invariant-lines
invariant-lines g l = record {
  writes : (sent : Text) × SentTo (IsChosen true (sought_of l.whole l.fn.matchers)) l.block l.start l.others sent × GoesOut g.W.CountedWrite.contents g.W.CountedWrite.failures l.fn.out l.out sent;
  same : AreSame l.fn.matchers l.matchers;
  steps : AddsAtMost (length (expressions_of l.fn.matchers) * l.start) l.fn.meter l.meter;
}

abbrev pub decreases-lines : goal.decreases-lines
decreases-lines g l = length l.block - l.start
