-- The whole command: what it writes for its words, and its exit status (XCU grep).
use Rattle.std.specs.Prelude.{◌≡◌, ℕ, nat_lt, List, [], ◌∷◌, ◌++◌, ◌⊎◌, length, All, Option, Result}
use Rattle.std.specs.Prelude.{Ok, Err, MatchBool, MatchResult}
use Rattle.re_syntax.specs.{declared.fault.PatternFault.PatternFault, Profile.most_patterns}
use Rattle.{re_syntax.specs.{Expression.Expression, Bytes.Text}, re_search.specs.Reading.IsReadable}
use Rattle.grep_core.specs.declared.status.Status.TheVariants.{Selected, NoneSelected, Error}
use Rattle.grep_core.specs.declared.status.{Status.Status, RunFault.RunFault}
use Rattle.grep_core.specs.declared.status.RunFault.TheVariants.{MessageWrite, Write, Memory}
use Rattle.grep_core.specs.{declared.options.Options.Options, Files.AreMeant, Counted.one_more}
use Rattle.grep_core.specs.Run.{RunGives, TakesAll, TakesFront, count_more, Devices, Writer}
use Rattle.grep_core.specs.{Reading.Source, Matchers.IsFirstRefused}
use Rattle.grep_utility.specs.{Words.{Asked, PatternsFrom, read}, Texts.usage_texts}
use Rattle.grep_utility.specs.Texts.{out_of_memory, write_error, too_many_patterns, pattern_refused}
use Rattle.grep_utility.specs.Patterns.{Unread, OneReaderEach, FirstUnread, GivePatterns}
use Rattle.grep_utility.specs.{Patterns.folder_after_all, Folder.{sources_named, Folder, searched}}

-- the exit status (XCU grep, EXIT STATUS)
abbrev pub status_number : Status → ℕ
status_number Selected = 0
status_number NoneSelected = 1
status_number Error = 2

-- the lines were written, or a beginning of them where a write failed
abbrev pub ReportsLines : Writer → Writer → List Text → Type 0
ReportsLines old new texts =
    TakesAll old new texts ⊎ (TakesFront old new texts × (new.failures ≡ one_more old.failures))

-- how a program ends for which this status was found, where so many bytes of messages still wait: no
-- more is sent if a message could not be written before; otherwise all messages are sent, with the
-- same status, or a write fails and the status is 2
abbrev pub SendsMessages : Writer → Writer → ℕ → ℕ → ℕ → Type 0
SendsMessages old new waiting found status =
    MatchBool (nat_lt 0 old.failures) ((new ≡ old) × (status ≡ found))
    ((TakesAll old new [] × (waiting ≡ 0) × (status ≡ found))
    ⊎ (TakesFront old new [] × (new.failures ≡ one_more old.failures) × (status ≡ 2)))

-- the command ends with these messages and status 2; nothing more is written to the output, no step
-- is counted, and the devices of files failed this number of times
pub record GivesUp (old new : Devices) (texts : List Text) (failures status : ℕ) : Type 0 where
  pub is_error : status ≡ 2
  pub none_written : new.out ≡ old.out
  pub reported : ReportsLines old.messages new.messages texts
  pub counted : new.source_failures ≡ count_more old.source_failures failures
  pub no_step : new.steps ≡ old.steps

-- how the command ends once the files were searched: what cut the search short is reported, but
-- not after a message that could not be written
abbrev pub EndsAfter : Result Status RunFault → Devices → Devices → ℕ → Type 0
EndsAfter (Ok found) old new status = (status ≡ status_number found) × (new ≡ old)
EndsAfter (Err Write) old new status = GivesUp old new (write_error ∷ []) 0 status
EndsAfter (Err MessageWrite) old new status = (status ≡ 2) × (new ≡ old)
EndsAfter (Err (Memory k lines)) old new status = GivesUp old new (out_of_memory ∷ []) 0 status

-- the files were searched for these expressions, and the command ended so; `returned_with` holds of
-- what the returned readers had left
pub record SearchEnds (es : List Expression) (options : Options) (sources : List Source)
    (returned_with : List (Option Text) → Type 0) (old new : Devices) (status : ℕ) : Type 0 where
  pub found : Result Status RunFault
  pub between : Devices
  pub runs : RunGives es options sources returned_with old between found
  pub ends : EndsAfter found between new status

module _ (asked : Asked) (folder : Folder) (texts : List Text)
    (returned_with : List (Option Text) → Type 0) (old new : Devices) (status : ℕ) where
  -- the first pattern that isn't readable is reported
  pub record RefusesPattern : Type 0 where
    pub place : ℕ
    pub fault : PatternFault
    pub is_first : IsFirstRefused asked.syntax asked.options.ignore_case texts place fault
    pub gives_up : GivesUp old new (pattern_refused place fault ∷ []) 0 status

  -- all patterns are readable, and the files are searched for what they mean
  pub record SearchesNamed : Type 0 where
    pub readable : All (IsReadable asked.syntax asked.options.ignore_case) texts
    pub es : List Expression
    pub are_meant : AreMeant asked.syntax asked.options texts es
    pub ends : SearchEnds es asked.options (sources_named folder (searched asked.files))
        returned_with old new status

  -- the patterns are counted, then each is read in order, and then the files are searched
  abbrev pub DoesForPatterns : Type 0
  DoesForPatterns =
      MatchBool (nat_lt most_patterns (length texts))
      (GivesUp old new (too_many_patterns ∷ []) 0 status) (RefusesPattern ⊎ SearchesNamed)

-- the readers of pattern files were returned before these
abbrev pub ReturnedAfter : List PatternsFrom → (List (Option Text) → Type 0) → List (Option Text) →
    Type 0
ReturnedAfter sources returned_with left =
    (read : List (Option Text)) × OneReaderEach sources read × returned_with (read ++ left)

module _ (folder : Folder) (returned_with : List (Option Text) → Type 0) (old new : Devices)
    (status : ℕ) where
  -- the pattern files are read, each once, up to the first that can't be
  abbrev pub DoesForRequest : Asked → Type 0
  DoesForRequest asked =
      ((unread : Unread) × FirstUnread folder asked.sources unread ×
      GivesUp old new (unread.message ∷ []) unread.failures status)
      ⊎ ((texts : List Text) × GivePatterns folder asked.sources texts
      × DoesForPatterns asked (folder_after_all folder asked.sources) texts
      (ReturnedAfter asked.sources returned_with) old new status)

  -- what the command does for its words, or it was out of memory before the search
  abbrev pub CommandGives : List Text → Type 0
  CommandGives words =
      MatchResult (read words) DoesForRequest
      (λ fault. GivesUp old new (usage_texts fault) 0 status)
      ⊎ GivesUp old new (out_of_memory ∷ []) 0 status
