-- Lines with their newlines, as a chunk keeps them.
use Rattle.std.specs.Prelude.{◌≡◌, ◌-◌, [], ◌∷◌, ◌++◌, length, take}
use Rattle.re_trees.specs.{Bytes.Text, Lines.{HasNoNewline, newline}}

-- the text without its last byte
abbrev pub bare : Text → Text
bare text = take (length text - 1) text

-- the text is a line and its newline
abbrev pub IsEnded : Text → Type 0
IsEnded text = HasNoNewline (bare text) × (text ≡ bare text ++ newline ∷ [])
