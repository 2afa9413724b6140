use Rattle.grep_io.proofs.Prelude.{◌≡◌, ◌-◌, ◌≤◌, length, take, Appends}
use Rattle.grep_io.proofs.devices.push.push_most.Given as goal

-- the bytes up to here were written
abbrev pub invariant-loop-at : goal.invariant-loop-at
invariant-loop-at g l = record {
  within : l.at ≤ length l.bytes;
  written : Appends (g.W.CountedWrite.contents l.fn.out) (g.W.CountedWrite.contents l.out) (take l.at l.bytes);
  none_failed : g.W.CountedWrite.failures l.out ≡ g.W.CountedWrite.failures l.fn.out;
}

abbrev pub decreases-loop-at : goal.decreases-loop-at
decreases-loop-at g l = length l.bytes - l.at
