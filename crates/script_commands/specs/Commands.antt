-- The commands of a script: what a line asks for, with the lines that it counts (occur(1), COMMANDS).
use Rattle.std.specs.Prelude.{if◌then◌else◌, Option, length, ◌∷◌, option_map, ◌≡◌, Some, nat_eq}
use Rattle.std.specs.Prelude.{List, bytes_eq, false, option_and_then, [], ℕ, true, None, Bool}
use Rattle.std.specs.Prelude.{codes, ◌≤◌}
use Rattle.re_syntax.specs.declared.syntax.Syntax.{TheVariants.{Fixed, Extended, Basic}, Syntax}
use Rattle.re_syntax.specs.{Bytes.Text, Lines.{joined, put_before}}
use Rattle.{grep_core.specs.declared.options.Flag.Flag, grep_session.specs.Edits.ChangePattern}
use Rattle.grep_session.specs.Edits.{SetSyntax, AddPatterns, Edit, SetContext, DropPattern, AddFile}
use Rattle.grep_session.specs.Edits.{Splice, DropFile, SetFlag, AddMissing}
use Rattle.grep_utility.specs.{Words.{number_of, meaning_of}, declared.words.tokens.Meaning.Meaning}
use Rattle.grep_utility.specs.declared.words.tokens.Meaning.TheVariants as meaning

abbrev pub space : ℕ
space = 32

-- the words of a line, separated by single spaces: one more than there are spaces
unfoldable pub words_of : Text → List Text
words_of [] = [] ∷ []
words_of (b ∷ rest) = if nat_eq b space then [] ∷ words_of rest else put_before b (words_of rest)

-- a name is one byte or more
abbrev pub name_of : Text → Option Text
name_of [] = None
name_of (b ∷ rest) = Some (b ∷ rest)

-- an option of the output or of matching is named by its letter
abbrev pub flag_meant : Option Meaning → Option Flag
flag_meant (Some (meaning.Flag flag)) = Some flag
flag_meant _ = None

abbrev pub flag_of : Text → Option Flag
flag_of (b ∷ []) = flag_meant (meaning_of b)
flag_of _ = None

abbrev pub switch_of : Text → Option Bool
switch_of word =
    if bytes_eq word (codes "on") then Some true else if bytes_eq word (codes "off") then Some false
    else None

abbrev pub syntax_of : Text → Option Syntax
syntax_of word =
    if bytes_eq word (codes "basic") then Some Basic else
    if bytes_eq word (codes "extended") then Some Extended else
    if bytes_eq word (codes "fixed") then Some Fixed else None

-- an edit, an edit with the number of next lines that it counts, the report, what changed, a page
-- with the number of its first hit and of its hits, the version, or whether rows have their text
pub data Command : Type 0 where
  edits : Edit → Command
  counts : ℕ → (List Text → Edit) → Command
  shows : Command
  lists_changes : Command
  lists_page : ℕ → ℕ → Command
  asks_version : Command
  switches_text : Bool → Command

-- what is made of the number that a word is, where it is one
abbrev pub from_number : Text → (ℕ → Option Command) → Option Command
from_number word make = option_and_then make (number_of word)

-- `file NAME COUNT`
abbrev pub file_command : List Text → Option Command
file_command (name ∷ count ∷ []) =
    from_number count (λ n. option_map (λ text. counts n (AddFile text)) (name_of name))
file_command _ = None

-- `missing NAME`
abbrev pub missing_command : List Text → Option Command
missing_command (name ∷ []) = option_map (λ n. edits (AddMissing n)) (name_of name)
missing_command _ = None

-- `close K`
abbrev pub close_command : List Text → Option Command
close_command (file ∷ []) = from_number file (λ k. Some (edits (DropFile k)))
close_command _ = None

-- `splice K START REMOVE COUNT`
abbrev pub splice_command : List Text → Option Command
splice_command (file ∷ start ∷ removed ∷ count ∷ []) =
    from_number file (λ k. from_number start (λ s. from_number removed (λ r.
    from_number count (λ n. Some (counts n (Splice k s r))))))
splice_command _ = None

-- `patterns COUNT`, where there is at least one
abbrev pub patterns_command : List Text → Option Command
patterns_command (count ∷ []) =
    from_number count (λ n. if nat_eq n 0 then None else
    Some (counts n (λ lines. AddPatterns (joined lines))))
patterns_command _ = None

-- `drop P`
abbrev pub drop_command : List Text → Option Command
drop_command (pattern ∷ []) = from_number pattern (λ p. Some (edits (DropPattern p)))
drop_command _ = None

-- `pattern P`, which counts one line
abbrev pub pattern_command : List Text → Option Command
pattern_command (pattern ∷ []) =
    from_number pattern (λ p. Some (counts 1 (λ lines. ChangePattern p (joined lines))))
pattern_command _ = None

-- `flag LETTER on` or `flag LETTER off`
abbrev pub flag_command : List Text → Option Command
flag_command (letter ∷ switch ∷ []) =
    option_and_then (λ flag. option_map (λ on. edits (SetFlag flag on)) (switch_of switch))
    (flag_of letter)
flag_command _ = None

-- `syntax basic`, `syntax extended` or `syntax fixed`
abbrev pub syntax_command : List Text → Option Command
syntax_command (name ∷ []) = option_map (λ syntax. edits (SetSyntax syntax)) (syntax_of name)
syntax_command _ = None

-- `context off` or `context BEFORE AFTER`
abbrev pub context_command : List Text → Option Command
context_command (word ∷ []) =
    if bytes_eq word (codes "off") then Some (edits (SetContext None)) else None
context_command (before ∷ after ∷ []) = from_number before (λ b. from_number after (λ a.
    Some (edits (SetContext (Some (record { before = b; after = a }))))))
context_command _ = None

-- `page FIRST COUNT`
abbrev pub page_command : List Text → Option Command
page_command (first ∷ count ∷ []) =
    from_number first (λ f. from_number count (λ c. Some (lists_page f c)))
page_command _ = None

-- `text on` or `text off`
abbrev pub text_command : List Text → Option Command
text_command (switch ∷ []) = option_map (λ on. switches_text on) (switch_of switch)
text_command _ = None

-- `show`, `changes` or `version`: a command that no word follows
abbrev pub alone : Command → List Text → Option Command
alone command [] = Some command
alone command _ = None

unfoldable pub asking_command : Text → List Text → Option Command
asking_command word given =
    if bytes_eq word (codes "show") then alone shows given else
    if bytes_eq word (codes "changes") then alone lists_changes given else
    if bytes_eq word (codes "page") then page_command given else
    if bytes_eq word (codes "version") then alone asks_version given else
    if bytes_eq word (codes "text") then text_command given else None

unfoldable pub unnamed_command : Text → List Text → Option Command
unnamed_command word given =
    if bytes_eq word (codes "splice") then splice_command given else
    if bytes_eq word (codes "close") then close_command given else
    if bytes_eq word (codes "patterns") then patterns_command given else
    if bytes_eq word (codes "drop") then drop_command given else
    if bytes_eq word (codes "pattern") then pattern_command given else
    if bytes_eq word (codes "flag") then flag_command given else
    if bytes_eq word (codes "syntax") then syntax_command given else
    if bytes_eq word (codes "context") then context_command given else asking_command word given

-- the command of these words, where they are one
unfoldable pub command_of : List Text → Option Command
command_of [] = None
command_of (word ∷ given) =
    if bytes_eq word (codes "file") then file_command given else
    if bytes_eq word (codes "missing") then missing_command given else unnamed_command word given

abbrev pub line_command : Text → Option Command
line_command line = command_of (words_of line)

-- memory can run out at the command, of which these lines were taken: for its name, for one of the
-- lines that it counts, or for the list that is made of them
abbrev pub AsksForMemory : Option Command → List Text → Type 0
AsksForMemory (Some (counts count edit)) taken = length taken ≤ count
AsksForMemory (Some (edits (AddMissing name))) taken = taken ≡ []
AsksForMemory _ taken = ⊥
