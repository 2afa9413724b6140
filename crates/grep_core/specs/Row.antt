-- An output line of grep (XCU grep, STDOUT).
use Rattle.std.specs.{Prelude.{ℕ, [], ◌∷◌, ◌++◌, Option, None, Some}, Fmt.decimal}
use Rattle.re_syntax.specs.{Bytes.Text, Lines.newline}

-- what separates name and number of a selected line, of a part and of a count from what follows
abbrev pub colon : ℕ
colon = 58

-- and for a line that is shown around selected ones
abbrev pub hyphen : ℕ
hyphen = 45

-- the name and the separator, where a name is shown
abbrev pub prefix : ℕ → Option Text → Text
prefix separator None = []
prefix separator (Some name) = name ++ separator ∷ []

-- the number in decimal and the separator, where a number is shown
abbrev pub number_part : ℕ → Option ℕ → Text
number_part separator None = []
number_part separator (Some number) = decimal number ++ separator ∷ []

-- what is before the text of an output line
abbrev pub head : ℕ → Option Text → Option ℕ → Text
head separator name number = prefix separator name ++ number_part separator number

-- an output line: the margin, the text and a newline
abbrev pub output_line : Text → Text → Text
output_line margin text = margin ++ text ++ newline ∷ []
