-- The limits of what is read, and the bytes that this grep leaves undefined: its choices where the
-- standard leaves one.
use Rattle.std.specs.Prelude.{ℕ, codes}
use Rattle.re_trees.specs.Bytes.{Text}
pub use Rattle.re_trees.specs.Limits.{most_positions, most_patterns, most_states}

-- the greatest number in an interval, RE_DUP_MAX (XBD 9.3.6, 9.4.6)
abbrev pub most_repeats : ℕ
most_repeats = 255

-- how deep groups and duplications may be nested
abbrev pub most_levels : ℕ
most_levels = 256

-- the bytes that may not follow a backslash, beside letters and digits (XBD 9.3.3, 9.4.3): in a
-- basic expression, and in an extended one
abbrev pub basic_refused : Text
basic_refused = codes "<>`'"

abbrev pub extended_refused : Text
extended_refused = codes "<>`'"

-- the bytes that do not stand for themselves after a backslash in a basic expression, beside
-- letters and digits: those that may not follow it, and those that have a meaning there
abbrev pub basic_escaped : Text
basic_escaped = codes "(){+?|<>`'"
