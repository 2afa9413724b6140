-- The patterns of a request (XCU grep, options `-e` and `-f`, and the operand pattern_list).
use Rattle.std.specs.Prelude.{◌⊎◌, Option, Ok, ◌++◌, [], Result, ◌≡◌, List, ℕ, ◌∷◌, Err}
use Rattle.{re_syntax.specs.{Lines.list_of, Bytes.Text}, grep_core.specs.Messages.cannot_open}
use Rattle.grep_core.specs.{Messages.read_error, Files.{File, Ending, whole, missing, broken}}
use Rattle.grep_core.specs.Reading.{IsReadingOf, file_of, failures_of, Reading}
use Rattle.grep_utility.specs.{Folder.{Folder, source_named, after_use}, Words.{PatternsFrom, list}}
use Rattle.grep_utility.specs.Words.{file}
use Rattle.grep_core.specs.Reading as reading

-- a pattern file that was not read: the message on it, and how often the devices failed in it
pub record Unread : Type 0 where
  pub message : Text
  pub failures : ℕ

-- the lines of a pattern file are its patterns, where it was read to its end
abbrev pub patterns_by : Ending → File → ℕ → Result (List Text) Unread
patterns_by whole f failures = Ok f.lines
patterns_by missing f failures = Err (record { message = cannot_open f.name; failures = failures })
patterns_by broken f failures = Err (record { message = read_error f.name; failures = failures })

abbrev pub FileGives : reading.Source → Result (List Text) Unread → Type 0
FileGives source given =
    (did : Reading) × IsReadingOf source did
    × (given ≡
    patterns_by (file_of source.name did).ending (file_of source.name did) (failures_of did))

-- what a source of patterns gives: a list is split at its newlines
abbrev pub GivesPatterns : Folder → PatternsFrom → Result (List Text) Unread → Type 0
GivesPatterns folder (list text) given = given ≡ Ok (list_of text)
GivesPatterns folder (file name) given = FileGives (source_named folder name) given

-- what is known of files once the source of patterns was read
abbrev pub folder_after : Folder → PatternsFrom → Folder
folder_after folder (list text) = folder
folder_after folder (file name) = after_use folder name

abbrev pub folder_after_all : Folder → List PatternsFrom → Folder
folder_after_all folder [] = folder
folder_after_all folder (source ∷ sources) = folder_after_all (folder_after folder source) sources

-- sources, each of which is read, give these patterns in order
abbrev pub GivePatterns : Folder → List PatternsFrom → List Text → Type 0
GivePatterns folder [] texts = texts ≡ []
GivePatterns folder (source ∷ sources) texts =
    (first : List Text) × (rest : List Text) × GivesPatterns folder source (Ok first)
    × GivePatterns (folder_after folder source) sources rest × (texts ≡ first ++ rest)

-- what the readers of these sources had left when they were returned: a pattern file, which is read
-- once, has one reader, and a list has none
abbrev pub OneReaderEach : List PatternsFrom → List (Option Text) → Type 0
OneReaderEach [] left = left ≡ []
OneReaderEach (list text ∷ sources) left = OneReaderEach sources left
OneReaderEach (file name ∷ sources) left =
    (rest : Option Text) × (others : List (Option Text)) × OneReaderEach sources others
    × (left ≡ rest ∷ others)

-- the first source that is not read, after some that are
abbrev pub FirstUnread : Folder → List PatternsFrom → Unread → Type 0
FirstUnread folder [] fault = ⊥
FirstUnread folder (source ∷ sources) fault =
    GivesPatterns folder source (Err fault)
    ⊎ ((first : List Text) × GivesPatterns folder source (Ok first) ×
    FirstUnread (folder_after folder source) sources fault)
