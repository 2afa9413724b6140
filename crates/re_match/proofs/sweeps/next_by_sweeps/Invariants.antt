use Rattle.{re_match.proofs.Prelude.{◌-◌, ◌≤◌, length, PassesUnmatched, SameMatcher}, re_auto.specs.Searches.AddsAtMost}
use Rattle.re_match.proofs.sweeps.next_by_sweeps.Given as goal

-- the lines before the place were passed or searched, and none is matched
abbrev pub invariant-lines : goal.invariant-lines
invariant-lines g l = record {
  within : l.start ≤ length l.block;
  passed : PassesUnmatched (g.M.Sweeps.expression l.fn.matcher) (g.M.Sweeps.whole l.fn.matcher) l.block l.start;
  same : SameMatcher g.M.Sweeps.expression g.M.Sweeps.whole g.M.Sweeps.room l.fn.matcher l.matcher;
  steps : AddsAtMost l.start l.fn.meter l.meter;
}

abbrev pub decreases-lines : goal.decreases-lines
decreases-lines g l = length l.block - l.start
