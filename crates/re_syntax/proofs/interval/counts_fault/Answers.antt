use Rattle.re_syntax.proofs.Prelude.{least_too_large, most_too_large, descending}
use Rattle.re_syntax.proofs.interval.counts_fault.Goals as goal

pub returns-then-counts-gt-MOST_REPEATS : goal.returns-then-counts-gt-MOST_REPEATS
returns-then-counts-gt-MOST_REPEATS c = least_too_large c.if-counts-gt-MOST_REPEATS.true

pub returns-then-most-gt-MOST_REPEATS : goal.returns-then-most-gt-MOST_REPEATS
returns-then-most-gt-MOST_REPEATS c = rw c.in_ok-most.was (most_too_large c.if-most-gt-MOST_REPEATS.true)

pub returns-then-most-counts : goal.returns-then-most-counts
returns-then-most-counts c = rw c.in_ok-most.was (descending c.if-most-counts.true c.if-counts-gt-MOST_REPEATS.false)
