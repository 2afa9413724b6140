use Rattle.std.proofs.Common.{◌+◌, length}
use Rattle.examples.proofs.lines.longest.Given as goal

-- the bytes that are still to come
abbrev pub decreases-loop-lines : goal.decreases-loop-lines
decreases-loop-lines l = length l.lines.lines.ahead + length l.lines.lines.reader.device.now
