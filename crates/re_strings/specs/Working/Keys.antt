-- Bytes and texts as strings are compared.
use Rattle.std.specs.Prelude.{ℕ, ◌+◌, Bool, true, false, map, if◌then◌else◌}
use Rattle.re_trees.specs.{declared.class.Class.TheVariants.Upper, Bytes.{Text, in_class}}

-- a byte as strings are compared: an upper-case letter by its lower case where `fold` is set
unfoldable pub key : Bool → ℕ → ℕ
key false b = b
key true b = if in_class Upper b then b + 32 else b

-- a text as strings are compared
abbrev pub keys : Bool → Text → Text
keys fold text = map (key fold) text
