-- Limits of this grep, where the standard leaves a choice.
use Rattle.std.specs.Prelude.{ℕ}

-- the greatest number of positions of an expression, its intervals written out
abbrev pub most_positions : ℕ
most_positions = 4096

abbrev pub most_patterns : ℕ
most_patterns = 65535

-- the greatest number of entries of a cache of steps
abbrev pub most_states : ℕ
most_states = 65536
