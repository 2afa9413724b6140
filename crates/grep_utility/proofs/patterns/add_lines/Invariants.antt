use Rattle.grep_utility.proofs.{Prelude.{◌-◌, most_lines}, lemmas.CollectingLemmas.LinesSoFar}
use Rattle.grep_utility.proofs.patterns.add_lines.Given as goal

-- the lines that were handed out were added
abbrev pub invariant-loop-texts : goal.invariant-loop-texts
invariant-loop-texts g l = LinesSoFar g.R.CountedRead.remaining g.R.CountedRead.failures l.fn.lines.lines.reader l.lines l.fn.texts.items l.texts.items

abbrev pub decreases-loop-texts : goal.decreases-loop-texts
decreases-loop-texts g l = most_lines - l.lines.number
