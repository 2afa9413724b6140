-- The words of a command (XBD 12.2, Guidelines 3 to 7, 10, 11 and 13; XCU grep, OPTIONS and
-- OPERANDS). An option after an operand is still an option, as GNU grep has it; Guideline 9 has
-- all options before the operands.
use Rattle.std.specs.{Str.{byte, chars, encode_utf8_all}, List.list_all, String.string_bytes}
use Rattle.std.specs.{Prelude.{nat_lt, bytes_eq, String, codes}, Option.{unwrap_or, option_or}}
use Rattle.std.specs.Prelude.{Bool, Some, Ok, false, if◌then◌else◌, [], ℕ, ◌++◌, true, None, map}
use Rattle.std.specs.Prelude.{min, List, Option, Result, ◌&&◌, ◌∷◌, ◌-◌, Err, nat_eq, ◌^◌}
use Rattle.re_trees.specs.declared.class.Class.TheVariants.{Digit}
use Rattle.re_syntax.specs.declared.syntax.Syntax.{Syntax, TheVariants.{Basic, Extended, Fixed}}
use Rattle.re_syntax.specs.{Bytes.{in_class, Text}, Intervals.value}
use Rattle.grep_core.specs.declared.options.Flag.TheVariants.{Count, IgnoreCase, FilesWithMatches}
use Rattle.grep_core.specs.declared.options.Flag.TheVariants.{LineNumber, OnlyMatching, Quiet}
use Rattle.grep_core.specs.declared.options.Flag.TheVariants.{NoMessages, InvertMatch, LineRegexp}
use Rattle.grep_core.specs.declared.options.{Flag.Flag, Context.Context, Options.Options}
use Rattle.grep_core.specs.Options.{no_options, with_option}
use Rattle.grep_utility.specs.declared.words.tokens.{Argument.Argument, Meaning.Meaning}
use Rattle.grep_utility.specs.declared.words.UsageFault.TheVariants.{TwoSyntaxes, BadNumber}
use Rattle.grep_utility.specs.declared.words.UsageFault.TheVariants.{UnknownOption, NoPattern}
use Rattle.grep_utility.specs.declared.words.UsageFault.{TheVariants.MissingArgument, UsageFault}
use Rattle.grep_utility.specs.declared.words.around.Side.{Side, TheVariants.{Before, After, Both}}
use Rattle.grep_utility.specs.declared.words.around.Around.{Around}
use Rattle.grep_utility.specs.declared.words.tokens.Argument.TheVariants as argument
use Rattle.grep_utility.specs.declared.words.tokens.Meaning.TheVariants as meaning

-- a pattern list, or the name of a pattern file
pub data PatternsFrom : Type 0 where
  list : Text → PatternsFrom
  file : Text → PatternsFrom

pub record Asked : Type 0 where
  pub syntax : Syntax
  pub options : Options
  pub sources : List PatternsFrom
  pub files : List Text

-- an option with its argument, an operand, or a fault
pub data Token : Type 0 where
  flag : Flag → Token
  reads_as : Syntax → Token
  source : PatternsFrom → Token
  -- this number of lines is shown on a side of selected ones
  around : Side → ℕ → Token
  operand : Text → Token
  fault : UsageFault → Token

-- ---- options

-- what a character means as an option (XCU grep, OPTIONS; `A`, `B`, `C` and `o` after the GNU
-- manual)
unfoldable pub meaning_of : ℕ → Option Meaning
meaning_of c =
    if nat_eq c (byte "E") then Some (meaning.Syntax Extended) else
    if nat_eq c (byte "F") then Some (meaning.Syntax Fixed) else
    if nat_eq c (byte "c") then Some (meaning.Flag Count) else
    if nat_eq c (byte "e") then Some (meaning.Takes argument.List) else
    if nat_eq c (byte "f") then Some (meaning.Takes argument.File) else
    if nat_eq c (byte "i") then Some (meaning.Flag IgnoreCase) else
    if nat_eq c (byte "l") then Some (meaning.Flag FilesWithMatches) else
    if nat_eq c (byte "n") then Some (meaning.Flag LineNumber) else
    if nat_eq c (byte "q") then Some (meaning.Flag Quiet) else
    if nat_eq c (byte "s") then Some (meaning.Flag NoMessages) else
    if nat_eq c (byte "v") then Some (meaning.Flag InvertMatch) else
    if nat_eq c (byte "x") then Some (meaning.Flag LineRegexp) else
    if nat_eq c (byte "A") then Some (meaning.Takes (argument.Lines After)) else
    if nat_eq c (byte "B") then Some (meaning.Takes (argument.Lines Before)) else
    if nat_eq c (byte "C") then Some (meaning.Takes (argument.Lines Both)) else
    if nat_eq c (byte "o") then Some (meaning.Flag OnlyMatching) else None

-- neither of `-E` and `-F` follows the other (XCU grep, SYNOPSIS)
abbrev pub may_follow : Syntax → Syntax → Bool
may_follow Extended Fixed = false
may_follow Fixed Extended = false
may_follow _ _ = true

-- a number, as a script has it, is one decimal digit or more, of a value below 2 ^ 64
abbrev pub number_of : Text → Option ℕ
number_of [] = None
number_of (b ∷ rest) =
    if list_all (in_class Digit) (b ∷ rest) &&
    nat_lt (value (b ∷ rest)) (2 ^ 64) then Some (value (b ∷ rest)) else None

-- the greatest number of lines that can be asked for
abbrev pub most_around : ℕ
most_around = 2 ^ 64 - 1

-- a number of lines is one decimal digit or more; one above the greatest counts as the greatest
abbrev pub lines_of : Text → Option ℕ
lines_of [] = None
lines_of (b ∷ rest) =
    if list_all (in_class Digit) (b ∷ rest) then Some (min (value (b ∷ rest)) most_around) else None

abbrev pub with_lines : Side → ℕ → Around → Around
with_lines After count before = record before { after = Some count }
with_lines Before count before = record before { before = Some count }
with_lines Both count before = record before { both = Some count }

-- no lines are shown on a side without a number where the other has one
abbrev pub context_from : Option ℕ → Option ℕ → Option Context
context_from None None = None
context_from before after = Some (record { before = unwrap_or before 0; after = unwrap_or after 0 })

-- on each side its own option takes precedence over `-C`
abbrev pub context_of : Around → Option Context
context_of numbers =
    context_from (option_or numbers.before numbers.both) (option_or numbers.after numbers.both)

-- the option of this letter with its argument
abbrev pub with_argument : ℕ → Argument → Text → Token
with_argument letter argument.List text = source (list text)
with_argument letter argument.File text = source (file text)
with_argument letter (argument.Lines side) text = elim (lines_of text) [
  | Some count ↦ around side count
  | None ↦ fault (BadNumber letter)
]

-- ---- words

-- what a word is: `--` ends the options (Guideline 10), a hyphen and more is a group of options (4
-- and 5), and `-` is an operand (13)
pub data Word : Type 0 where
  an_operand : Word
  ends_options : Word
  a_group : List ℕ → Word

abbrev pub by_characters : List ℕ → Word
by_characters [] = an_operand
by_characters (c ∷ []) = an_operand
by_characters (c ∷ d ∷ cs) = if nat_eq c (byte "-") then a_group (d ∷ cs) else an_operand

unfoldable pub word_of : Text → Word
word_of word = if bytes_eq word (codes "--") then ends_options else by_characters (chars word)

-- an option that still needs its argument, by its character
pub record Wanting : Type 0 where
  pub letter : ℕ
  pub argument : Argument

-- the options of a group and the pieces after it. The argument of an option is the rest of the
-- group or, where there is none, the next word (Guidelines 6 and 7)
module _ (following : Option Wanting → List Token) where
  abbrev pub group : List ℕ → List Token
  group [] = following None
  group (c ∷ cs) = elim (meaning_of c) [
    | Some (meaning.Flag f) ↦ flag f ∷ group cs
    | Some (meaning.Syntax s) ↦ reads_as s ∷ group cs
    | Some (meaning.Takes a) ↦ elim cs [
      | [] ↦ following (Some (record { letter = c; argument = a }))
      | d ∷ ds ↦ with_argument c a (encode_utf8_all (d ∷ ds)) ∷ following None
    ]
    | None ↦ fault (UnknownOption c) ∷ group cs
  ]

-- the pieces of words, where an option before them may take the first as its argument
abbrev pub pieces : List Text → Option Wanting → List Token
pieces [] None = []
pieces [] (Some w) = fault (MissingArgument w.letter) ∷ []
pieces (word ∷ words) (Some w) = with_argument w.letter w.argument word ∷ pieces words None
pieces (word ∷ words) None = elim (word_of word) [
  | an_operand ↦ operand word ∷ pieces words None
  | ends_options ↦ map operand words
  | a_group cs ↦ group (pieces words) cs
]

-- ---- operands

-- without `-e` and `-f` the first operand is the pattern list (XCU grep, OPERANDS)
abbrev pub with_patterns : Asked → List PatternsFrom → List Text → Result Asked UsageFault
with_patterns a (_ ∷ _) _ = Ok a
with_patterns a [] (text ∷ files) = Ok (record a { sources = list text ∷ []; files = files })
with_patterns a [] [] = Err NoPattern

abbrev pub completed : Asked → Result Asked UsageFault
completed a = with_patterns a a.sources a.files

abbrev pub with_context : Option Context → Asked → Asked
with_context context a = record a { options = record a.options { context = context } }

-- ---- all words

-- what some words ask for: a request, and the last number that each of `-A`, `-B` and `-C` has
pub record Draft : Type 0 where
  pub asked : Asked
  pub numbers : Around

abbrev pub with_source : PatternsFrom → Asked → Asked
with_source s a = record a { sources = a.sources ++ s ∷ [] }

abbrev pub with_operand : Text → Asked → Asked
with_operand text a = record a { files = a.files ++ text ∷ [] }

-- one more option or operand, or its fault
abbrev pub with_piece : Draft → Token → Result Draft UsageFault
with_piece d (reads_as s) =
    if may_follow d.asked.syntax s then Ok (record d { asked = record d.asked { syntax = s } })
    else Err TwoSyntaxes
with_piece d (flag f) =
    Ok (record d { asked = record d.asked { options = with_option f true d.asked.options } })
with_piece d (source s) = Ok (record d { asked = with_source s d.asked })
with_piece d (around side count) = Ok (record d { numbers = with_lines side count d.numbers })
with_piece d (operand text) = Ok (record d { asked = with_operand text d.asked })
with_piece d (fault f) = Err f

-- what the options and operands ask for besides, or the first fault
abbrev pub reads_on : Draft → List Token → Result Asked UsageFault
reads_on d [] = completed (with_context (context_of d.numbers) d.asked)
reads_on d (p ∷ ps) = elim (with_piece d p) [
  | Ok later ↦ reads_on later ps
  | Err f ↦ Err f
]

abbrev pub nothing_asked : Asked
nothing_asked = record { syntax = Basic; options = no_options; sources = []; files = [] }

abbrev pub no_numbers : Around
no_numbers = record { after = None; before = None; both = None }

-- what words ask for, or their first fault
abbrev pub read : List Text → Result Asked UsageFault
read words = reads_on (record { asked = nothing_asked; numbers = no_numbers }) (pieces words None)

-- ---- words as the code has them

abbrev pub texts_of : {Z : Type 0} → List (String Z) → List Text
texts_of words = map string_bytes words
