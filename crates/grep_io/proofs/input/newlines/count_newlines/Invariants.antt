use Rattle.grep_io.proofs.Prelude.{◌≡◌, ◌-◌, ◌≤◌, length, is_byte, places_between, newline}
use Rattle.grep_io.proofs.input.newlines.count_newlines.Given as goal

abbrev pub invariant-portions : goal.invariant-portions
invariant-portions l = (l.start ≤ length l.bytes) × (l.count ≡ length (places_between (is_byte newline) l.bytes 0 l.start))

abbrev pub decreases-portions : goal.decreases-portions
decreases-portions l = length l.bytes - l.start
