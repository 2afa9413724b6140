-- Files in memory.
use Rattle.std.specs.Prelude.{◌≡◌, ℕ, min, nat_eq, List, [], find, Option, Some, is_some}
use Rattle.std.specs.Prelude.{option_and_then, bytes_eq, if◌then◌else◌}
use Rattle.{re_syntax.specs.Bytes.Text, grep_core.specs.{Working.Limited.limited, Reading.Source}}
use Rattle.memory_files.specs.declared.files.{Content.Content, MemoryFile.MemoryFile}
use Rattle.memory_files.specs.declared.files.{MemoryFiles.MemoryFiles, MemoryReader.MemoryReader}
use Rattle.grep_utility.specs.{Folder.Folder, Working.Known.HasReturned}

-- the bytes that reads of the content give
abbrev pub bytes_of : Content → Option Text
bytes_of content = limited content.step content.left (Some content.bytes.now)

-- a reader of the content, none of whose reads has failed
abbrev pub fresh_reader : Content → MemoryReader
fresh_reader content =
    record { rest = content.bytes; step = content.step; left = content.left; failures = 0 }

-- the bytes that reads of it will give: none once a read failed
abbrev pub bytes_left : MemoryReader → Option Text
bytes_left r = if nat_eq r.failures 0 then limited r.step r.left (Some r.rest.now) else Some []

-- how many bytes a read moves
abbrev pub next_count : ℕ → ℕ → ℕ → ℕ → ℕ
next_count room step left there = min (min (min room step) left) there

-- a file of this content, if it has any
abbrev pub source_with : Text → Option Content → Source
source_with name content =
    record { name = name; opens = Some (is_some content); bytes = option_and_then bytes_of content }

abbrev pub source_of : MemoryFile → Source
source_of file = source_with file.name.now file.content

-- the content of the first file of this name
abbrev pub content_named : List MemoryFile → Text → Option Content
content_named files name =
    option_and_then (λ file. file.content) (find (λ file. bytes_eq file.name.now name) files)

-- what is known of the files and of standard input
abbrev pub folder_of : List MemoryFile → Content → Folder
folder_of files input = record {
  opens = λ name. Some (is_some (content_named files name));
  bytes = λ name. option_and_then bytes_of (content_named files name);
  input = bytes_of input;
}

-- what the returned readers had left, as the counts of the files say it
abbrev pub returned_by : MemoryFiles → List (Option Text) → Type 0
returned_by m left = HasReturned m.returned m.broken left

-- no reader was returned between the two
abbrev pub IsSameHistory : MemoryFiles → MemoryFiles → Type 0
IsSameHistory old new = (new.returned ≡ old.returned) × (new.broken ≡ old.broken)
