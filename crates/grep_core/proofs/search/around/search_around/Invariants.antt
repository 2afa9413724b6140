use Rattle.grep_core.proofs.{Prelude.{◌≡◌, ◌-◌, ◌^◌, AreSame, IsOneLineAndFew, writer, expressions_of}, lemmas.AroundSearch.FollowedSoFar}
use Rattle.grep_core.proofs.search.around.search_around.Given as goal

-- what is shown of the lines that were handed out or passed was written
abbrev pub invariant-lines : goal.invariant-lines
invariant-lines g l = record {
  so_far : FollowedSoFar (record {
    remaining = g.R.CountedRead.remaining;
    failures = g.R.CountedRead.failures;
    es = expressions_of l.fn.matchers;
    options = l.request.options;
    many = l.request.many;
    shown = l.fn.surroundings.progress.shown;
    name = l.request.name.now;
    reader = l.fn.lines.lines.reader;
    context = l.fn.surroundings.progress.context;
  }) l.lines (writer g.W.CountedWrite.contents g.W.CountedWrite.failures l.fn.out) (writer g.W.CountedWrite.contents g.W.CountedWrite.failures l.out) l.fn.meter l.meter l.selected l.surroundings.progress l.surroundings.recent.lines;
  limit : l.surroundings.recent.limit ≡ l.fn.surroundings.progress.context.before;
  few_held : IsOneLineAndFew l.lines.lines.ahead;
  same : AreSame l.fn.matchers l.matchers;
}

abbrev pub decreases-lines : goal.decreases-lines
decreases-lines g l = 2 ^ 64 - l.lines.number
