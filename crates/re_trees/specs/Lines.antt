-- The lines of a text file (XBD 3.206, 3.403), and the patterns of a pattern list (XCU grep,
-- OPERANDS).
use Rattle.std.specs.Prelude.{◌≡◌, ◌≢◌, ℕ, ◌⊎◌, List, [], ◌∷◌, ◌++◌, All, if◌then◌else◌, nat_eq}
use Rattle.re_trees.specs.Bytes.{Text}

abbrev pub newline : ℕ
newline = 10

-- the byte put before the first text
abbrev pub put_before : ℕ → List Text → List Text
put_before b [] = (b ∷ []) ∷ []
put_before b (t ∷ ts) = (b ∷ t) ∷ ts

-- the lines of an input; a last line may lack its newline
unfoldable pub lines_of : Text → List Text
lines_of [] = []
lines_of (b ∷ rest) = if nat_eq b newline then [] ∷ lines_of rest else put_before b (lines_of rest)

-- the byte put before the first text, where there is one
abbrev pub put_before_first : ℕ → List Text → List Text
put_before_first b [] = []
put_before_first b (t ∷ ts) = (b ∷ t) ∷ ts

-- the lines of an input that a newline ends, without an unfinished last line
unfoldable pub ended_lines_of : Text → List Text
ended_lines_of [] = []
ended_lines_of (b ∷ rest) =
    if nat_eq b newline then [] ∷ ended_lines_of rest else put_before_first b (ended_lines_of rest)

-- the patterns of a list, separated by newlines: one more than there are newlines
unfoldable pub list_of : Text → List Text
list_of [] = [] ∷ []
list_of (b ∷ rest) = if nat_eq b newline then [] ∷ list_of rest else put_before b (list_of rest)

abbrev pub HasNoNewline : Text → Type 0
HasNoNewline t = All (λ b. b ≢ newline) t

-- each text followed by a newline
abbrev pub terminated : List Text → Text
terminated [] = []
terminated (t ∷ ts) = t ++ newline ∷ terminated ts

-- the texts with a newline between each two
abbrev pub joined : List Text → Text
joined [] = []
joined (t ∷ []) = t
joined (t ∷ u ∷ ts) = t ++ newline ∷ joined (u ∷ ts)

-- no text has a newline, and the bytes are each text followed by a newline; the last newline may be
-- missing where the last text is not empty
abbrev pub AreLines : Text → List Text → Type 0
AreLines bytes texts = All HasNoNewline texts × ((bytes ≡ terminated texts) ⊎
    ((front : List Text) × (last : Text) × (texts ≡ front ++ last ∷ []) × (last ≢ []) ×
    (bytes ≡ terminated front ++ last)))

-- no text has a newline, and the bytes are each text followed by a newline, and then a rest without
-- newline
abbrev pub AreEndedLines : Text → List Text → Type 0
AreEndedLines bytes texts =
    All HasNoNewline texts ×
    ((rest : Text) × HasNoNewline rest × (bytes ≡ terminated texts ++ rest))

-- one text or more without newline, which joined by newlines are the bytes
abbrev pub AreListed : Text → List Text → Type 0
AreListed bytes texts = All HasNoNewline texts × (texts ≢ []) × (bytes ≡ joined texts)
