use Rattle.grep_core.proofs.{Prelude.{◌≡◌, ◌-◌, ◌^◌, false, AreSame, writer, IsOneLineAndFew, leaves_early, expressions_of}, lemmas.LinesLemmas.SearchedSoFar}
use Rattle.grep_core.proofs.search.file.search_lines.Given as goal

-- the lines that were handed out or passed were searched
abbrev pub invariant-lines : goal.invariant-lines
invariant-lines g l = record {
  so_far : SearchedSoFar g.R.CountedRead.remaining g.R.CountedRead.failures (expressions_of l.fn.matchers) l.request.options l.request.many false l.request.name.now
      l.fn.lines.lines.reader l.lines (writer g.W.CountedWrite.contents g.W.CountedWrite.failures l.fn.out) (writer g.W.CountedWrite.contents g.W.CountedWrite.failures l.out) l.fn.meter l.meter l.selected;
  same : AreSame l.fn.matchers l.matchers;
  few_held : IsOneLineAndFew l.lines.lines.ahead;
  is_early : l.early ≡ leaves_early l.request.options;
}

abbrev pub decreases-lines : goal.decreases-lines
decreases-lines g l = 2 ^ 64 - l.lines.number
