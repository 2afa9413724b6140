use Rattle.{re_runs.proofs.Prelude.{◌≤◌, ◌-◌, length, Nowhere}, memchr.specs.Find.{Passes, is_byte}}
use Rattle.re_runs.proofs.newline.first_byte.Given as goal

abbrev pub invariant-vectors : goal.invariant-vectors
invariant-vectors l = (l.start ≤ length l.bytes) × Nowhere (Passes (is_byte l.byte) l.bytes) 0 l.start

abbrev pub decreases-vectors : goal.decreases-vectors
decreases-vectors l = length l.bytes - l.start
