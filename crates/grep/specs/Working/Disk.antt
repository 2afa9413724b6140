-- What is known of the files of the system.
use Rattle.std.specs.Prelude.{Bool, [], Option, None, Some, if◌then◌else◌}
use Rattle.{grep_utility.specs.{Bytes.Text, Folder.Folder}, grep.specs.declared.disk.Stream.Stream}
use Rattle.grep.specs.declared.disk.Stream.TheVariants.{File, StandardInput, Empty, Output}

-- the bytes that a stream will give, by what is known of its device
abbrev pub known_bytes : {I F : Type 0} → (I → Option Text) → (F → Option Text) → Stream I F →
    Option Text
known_bytes of_input of_file (StandardInput input) = of_input input
known_bytes of_input of_file (File file) = of_file file
known_bytes of_input of_file Empty = Some []
known_bytes of_input of_file Output = None

-- nothing is known, except that standard input is empty after it was used
abbrev pub folder_of : Bool → Folder
folder_of input_used = record {
  opens = λ _. None;
  bytes = λ _. None;
  input = if input_used then Some [] else None;
}
