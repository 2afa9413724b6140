-- How the words of a command line are read.
use Rattle.std.specs.{Prelude.{List, [], ◌∷◌, Option, Some, None}, Borrow.Bor}
use Rattle.{re_syntax.specs.Bytes.Text, script_commands.specs.Commands.words_of}

-- the words that are left of a line
abbrev pub words_of_rest : Option (Bor Text) → List Text
words_of_rest None = []
words_of_rest (Some rest) = words_of rest.now

abbrev pub only_word : List Text → Option Text
only_word (a ∷ []) = Some a
only_word _ = None

abbrev pub two_words : List Text → Option (List Text)
two_words (a ∷ b ∷ []) = Some (a ∷ b ∷ [])
two_words _ = None

abbrev pub four_words : List Text → Option (List Text)
four_words (a ∷ b ∷ c ∷ d ∷ []) = Some (a ∷ b ∷ c ∷ d ∷ [])
four_words _ = None
