-- Two commands, worked by hand.
use Rattle.std.specs.Prelude.{◌≡◌, ℕ, true, false, List, [], ◌∷◌, codes, Some, ⊤}
use Rattle.{re_syntax.specs.Bytes.Text, grep_core.specs.declared.status.Status.TheVariants.Error}
use Rattle.{grep_core.specs.Run.Devices, grep_utility.specs.{Command.CommandGives, Folder.Folder}}
use Rattle.grep_utility.specs.Working.Known.{HasReturned, WritesJust}

-- `grep -n -B 2 a h missing`, where the file `h` has three lines and there is no file `missing`
abbrev pub row_words : List Text
row_words = codes "-n" ∷ codes "-B" ∷ codes "2" ∷ codes "a" ∷ codes "h" ∷ codes "missing" ∷ []

-- the bytes of the file `h`
abbrev pub row_text : Text
row_text = codes "b\nc\na\n"

-- the lines that are written
abbrev pub row_output : List Text
row_output = codes "h-1-b" ∷ codes "h-2-c" ∷ codes "h:3:a" ∷ []

abbrev pub row_messages : List Text
row_messages = codes "grep: missing: cannot open" ∷ []

-- the command writes these, with status 2, where one failure of a file is counted and no write
-- fails, unless memory runs out
abbrev pub RowFollows : Type 0
RowFollows =
    (folder : Folder) → folder.opens (codes "h") ≡ Some true →
    folder.bytes (codes "h") ≡ Some row_text → folder.opens (codes "missing") ≡ Some false →
    (old new : Devices) (status : ℕ) → CommandGives folder (λ left. ⊤) old new status row_words →
    WritesJust 1 row_output row_messages Error old new status

-- `grep -n a f`, where reads of the file `f` fail after five bytes, in its third line
abbrev pub broken_words : List Text
broken_words = codes "-n" ∷ codes "a" ∷ codes "f" ∷ []

-- the bytes that reads of `f` give
abbrev pub broken_text : Text
broken_text = codes "a\nb\na"

-- the unfinished line is not searched
abbrev pub broken_output : List Text
broken_output = codes "1:a" ∷ []

abbrev pub broken_messages : List Text
broken_messages = codes "grep: f: read error" ∷ []

-- the command writes these, with status 2, where one reader came back, one read of it failed, which
-- is counted, and no write fails, unless memory runs out
abbrev pub BrokenFollows : Type 0
BrokenFollows =
    (folder : Folder) → folder.opens (codes "f") ≡ Some true →
    folder.bytes (codes "f") ≡ Some broken_text → (old new : Devices) (status : ℕ) →
    CommandGives folder (HasReturned 1 1) old new status broken_words →
    WritesJust 1 broken_output broken_messages Error old new status
