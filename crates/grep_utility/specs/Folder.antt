-- The files that a command may name, and its standard input (XCU grep, OPERANDS and STDIN).
use Rattle.std.specs.Prelude.{Bool, true, List, [], ◌∷◌, codes, bytes_eq, Option, Some}
use Rattle.std.specs.Prelude.{if◌then◌else◌}
use Rattle.{re_syntax.specs.Bytes.Text, grep_core.specs.Reading.Source}

-- what is known of the files by their names, whether each can be opened and its bytes, and of the
-- bytes that standard input has left
pub record Folder : Type 0 where
  pub opens : Text → Option Bool
  pub bytes : Text → Option Text
  pub input : Option Text

-- standard input is empty from its second use on
abbrev pub input_used : Folder → Folder
input_used folder = record folder { input = Some [] }

abbrev pub file_named : Folder → Text → Source
file_named folder name =
    record { name = name; opens = folder.opens name; bytes = folder.bytes name }

-- `-` names standard input (XBD 12.2, Guideline 13)
abbrev pub is_standard : Text → Bool
is_standard name = bytes_eq name (codes "-")

abbrev pub standard_input_name : Text
standard_input_name = codes "(standard input)"

-- the name that output and messages show
abbrev pub display_name : Text → Text
display_name word = if is_standard word then standard_input_name else word

abbrev pub source_named : Folder → Text → Source
source_named folder word = record {
  name = display_name word;
  opens = if is_standard word then Some true else folder.opens word;
  bytes = if is_standard word then folder.input else folder.bytes word;
}

-- what is known once the source that a word names was used
abbrev pub after_use : Folder → Text → Folder
after_use folder word = if is_standard word then input_used folder else folder

abbrev pub sources_named : Folder → List Text → List Source
sources_named folder [] = []
sources_named folder (name ∷ names) =
    source_named folder name ∷ sources_named (after_use folder name) names

-- the words that name what is searched: standard input where there is no file operand (XCU grep,
-- OPERANDS)
abbrev pub searched : List Text → List Text
searched [] = codes "-" ∷ []
searched (word ∷ words) = word ∷ words
