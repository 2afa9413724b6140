-- Sources about which all is known, and what they stand for where no read fails.
use Rattle.std.specs.Prelude.{◌≡◌, ℕ, ◌+◌, ◌-◌, ◌^◌, ◌<◌, ◌≤◌, Bool, true, false, List, [], ◌∷◌}
use Rattle.std.specs.Prelude.{◌++◌, ◌⊎◌, min, Option, Some, Ok, All, Any, map, length, ⊤}
use Rattle.re_syntax.specs.{Bytes.Text, Expression.Expression, Lines.list_of, Profile.most_patterns}
use Rattle.{re_search.specs.Reading.IsReadable, grep_core.specs.{Output.Out, Run.files_of}}
use Rattle.grep_core.specs.Run.{AreReadings, FailuresMet, Writer, Devices, TakesAll}
use Rattle.grep_core.specs.{Messages.{Messages, StatusOf}, Files.{File, AreMeant}}
use Rattle.grep_core.specs.Reading.{ends_after, Reading, not_opened, Source}
use Rattle.grep_core.specs.declared.{options.Options.Options, status.Status.Status}
use Rattle.grep_utility.specs.{Folder.{sources_named, searched, Folder}, Words.{read, Asked, list}}
use Rattle.grep_utility.specs.{Command.{CommandGives, status_number}, Texts.out_of_memory}

-- by whether a source can be opened, and its bytes: both are known, as far as there are any
abbrev pub AllIsKnown : Option Bool → Option Text → Type 0
AllIsKnown (Some true) (Some bytes) = ⊤
AllIsKnown (Some false) bytes = ⊤
AllIsKnown _ _ = ⊥

abbrev pub IsKnown : Source → Type 0
IsKnown source = AllIsKnown source.opens source.bytes

-- the reading of a known source in which no read fails
abbrev pub full_reading : Option Bool → Option Text → Reading
full_reading (Some true) (Some bytes) = ends_after bytes
full_reading _ _ = not_opened

abbrev pub in_full : List Source → List Reading
in_full sources = map (λ source. full_reading source.opens source.bytes) sources

-- how many of known sources cannot be opened
abbrev pub unopened_by : Option Bool → ℕ
unopened_by (Some false) = 1
unopened_by _ = 0

abbrev pub unopened : List Source → ℕ
unopened [] = 0
unopened (source ∷ sources) = unopened_by source.opens + unopened sources

-- the files for which known sources stand where no read fails
abbrev pub full_files : List Source → List File
full_files sources = files_of sources (in_full sources)

-- without `-q` and `-l`, known sources in which no more failures are met than there are sources
-- that cannot be opened were all read in full
abbrev pub CountDecides : Options → Type 0
CountDecides options =
    (es : List Expression) (sources : List Source) (readings : List Reading) → options.quiet ≡ false →
    options.files_with_matches ≡ false → All IsKnown sources → AreReadings sources readings →
    FailuresMet es options sources readings (unopened sources) → readings ≡ in_full sources

-- the last message that was written says that memory ran out
abbrev pub ReportsMemory : Writer → Writer → Type 0
ReportsMemory old new = (reported : List Text) × TakesAll old new (reported ++ out_of_memory ∷ [])

-- this output and these messages were written, and the status is this
pub record Wrote (output messages : List Text) (found : Status) (old new : Devices)
    (status : ℕ) : Type 0 where
  pub wrote : TakesAll old.out new.out output
  pub reported : TakesAll old.messages new.messages messages
  pub is_status : status ≡ status_number found

-- the words ask for a search of known files, without `-q`, `-l` and `-f`, of which this many cannot
-- be opened; where no read fails, this is what they are to write, and how the search ends
pub record Predicts (folder : Folder) (words : List Text) (missing : ℕ)
    (output messages : List Text) (found : Status) : Type 0 where
  pub asked : Asked
  pub is_read : read words ≡ Ok asked
  pub text : Text
  pub one_list : asked.sources ≡ list text ∷ []
  pub loud : asked.options.quiet ≡ false
  pub all_lines : asked.options.files_with_matches ≡ false
  pub few_patterns : length (list_of text) ≤ most_patterns
  pub readable : All (IsReadable asked.syntax asked.options.ignore_case) (list_of text)
  pub es : List Expression
  pub are_meant : AreMeant asked.syntax asked.options (list_of text) es
  pub known : All IsKnown (sources_named folder (searched asked.files))
  pub are_missing : unopened (sources_named folder (searched asked.files)) ≡ missing
  pub is_output : Out es asked.options (full_files (sources_named folder (searched asked.files)))
      output
  pub are_messages : Messages es asked.options
      (full_files (sources_named folder (searched asked.files))) messages
  pub is_status : StatusOf es asked.options
      (full_files (sources_named folder (searched asked.files))) found

-- so many readers were returned, and so many of their reads failed: if any did, there is a reader
-- that had given all its bytes
abbrev pub HasReturned : ℕ → ℕ → List (Option Text) → Type 0
HasReturned returned broken left =
    (returned ≡ min (length left) (2 ^ 64 - 1))
    × ((broken ≡ 0) ⊎ Any (λ rest. rest ≡ Some []) left)

-- this many failures of files were counted, and no write failed
pub record FailuresAre (failures : ℕ) (old new : Devices) : Type 0 where
  pub from_none : old.source_failures ≡ 0
  pub counted : new.source_failures ≡ failures
  pub few : failures < 2 ^ 64 - 1
  pub output_kept : new.out.failures ≡ 0
  pub messages_kept : new.messages.failures ≡ 0

-- where this many failures of files were counted, and no write failed, this output and these
-- messages were written, and the status is this, unless memory ran out
abbrev pub WritesJust : ℕ → List Text → List Text → Status → Devices → Devices → ℕ → Type 0
WritesJust failures output messages found old new status =
    FailuresAre failures old new →
    Wrote output messages found old new status ⊎ ReportsMemory old.messages new.messages

-- a command about which all is foretold writes just that, where as many failures of files are
-- counted as there are files that cannot be opened, and no write fails, unless memory runs out
abbrev pub WordsDecide : Type 0
WordsDecide =
    (folder : Folder) (words output messages : List Text) (missing : ℕ) (found : Status) →
    Predicts folder words missing output messages found → (old new : Devices) (status : ℕ) →
    CommandGives folder (λ left. ⊤) old new status words →
    WritesJust missing output messages found old new status
