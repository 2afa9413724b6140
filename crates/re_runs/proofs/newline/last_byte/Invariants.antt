use Rattle.{re_runs.proofs.Prelude.{◌≤◌, Nowhere}, memchr.specs.Find.{Passes, is_byte}}
use Rattle.re_runs.proofs.newline.last_byte.Given as goal

abbrev pub invariant-vectors : goal.invariant-vectors
invariant-vectors l = (l.end ≤ l.before) × Nowhere (Passes (is_byte l.byte) l.bytes) l.end l.before

abbrev pub decreases-vectors : goal.decreases-vectors
decreases-vectors l = l.end
