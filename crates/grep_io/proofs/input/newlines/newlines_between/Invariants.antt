use Rattle.grep_io.proofs.Prelude.{◌≡◌, ◌≤◌, length, is_byte, places_between, newline}
use Rattle.grep_io.proofs.input.newlines.newlines_between.Given as goal

abbrev pub invariant-places : goal.invariant-places
invariant-places l = (l.from ≤ l.place) × (l.count ≡ length (places_between (is_byte newline) l.bytes l.from l.place))
