-- What a search of one source does.
use Rattle.std.specs.Prelude.{IsTrue, Option, Result, ◌↔◌, ◌||◌, ◌≡◌, if◌then◌else◌, nat_lt, ◌≤◌}
use Rattle.std.specs.Prelude.{Ok, List, [], ◌∷◌, Bool, false, true, length, ℕ, Err, take, ◌++◌}
use Rattle.std.specs.Fmt.{decimal}
use Rattle.{re_syntax.specs.{Expression.Expression, Bytes.Text}, re_search.specs.Meters.Steps}
use Rattle.grep_core.specs.Run.{Writer, Devices, TakesAll, TakesFront, begun, count_more}
use Rattle.grep_core.specs.{Files.{missing, broken, HasSelected, Ending, whole}, Choose.IfHolds}
use Rattle.grep_core.specs.{Row.{colon, prefix}, Messages.{message, FaultMet, Reported}}
use Rattle.grep_core.specs.Working.{BlockRows.SearchesLines, Groups.{rows_after, GroupedAs}}
use Rattle.grep_core.specs.{Working.Requests.name_shown, Output.{Form, names, counts, form}}
use Rattle.grep_core.specs.declared.status.FileEnd.TheVariants.{Broken, Left, Missing, Whole}
use Rattle.grep_core.specs.declared.status.{FileEnd.FileEnd, SearchFault.SearchFault}
use Rattle.grep_core.specs.declared.status.RunFault.TheVariants.{Write, MessageWrite, Memory}
use Rattle.grep_core.specs.declared.status.{RunFault.RunFault, Status.Status}
use Rattle.grep_core.specs.declared.status.Status.TheVariants.{Selected, NoneSelected, Error}
use Rattle.grep_core.specs.declared.{status.FileFound.FileFound, options.Options.Options}
use Rattle.grep_io.specs.Reading.{Source, Reading, IsReadingOf, file_of, failures_of, AreLeft}
use Rattle.grep_io.specs.{Reading.HasRead, Counted.one_more}
use Rattle.grep_core.specs.declared.status.SearchFault.TheVariants as search_fault

-- a file is left at its first selected line
abbrev pub leaves_early : Options → Bool
leaves_early options = options.quiet || options.files_with_matches

-- a file that was not opened, or has a failed read
abbrev pub is_fault : FileEnd → Bool
is_fault Missing = true
is_fault Whole = false
is_fault Broken = true
is_fault Left = false

abbrev pub ending_of : FileEnd → Ending
ending_of Missing = missing
ending_of Whole = whole
ending_of Broken = broken
ending_of Left = whole

abbrev pub is_missing : FileEnd → Bool
is_missing Missing = true
is_missing Whole = false
is_missing Broken = false
is_missing Left = false

-- the count of a file's selected lines; nothing for a file that was not opened
abbrev pub count_line : Bool → Text → FileEnd → ℕ → List Text
count_line many name end selected =
    if is_missing end then [] else (prefix colon (name_shown many name) ++ decimal selected) ∷ []

-- what is written of a file after the rows of its lines
abbrev pub summary_as : Form → Bool → Text → FileEnd → ℕ → List Text
summary_as names many name end selected = if nat_lt 0 selected then name ∷ [] else []
summary_as counts many name end selected = count_line many name end selected
summary_as _ many name end selected = []

-- the messages about a file that ended so, and none under `-s`
abbrev pub reported_of : Bool → FileEnd → Text → List Text
reported_of silent end name = if silent then [] else message (ending_of end) name

-- the status of a run that did not stop on its way: a fault takes precedence over a selected line
abbrev pub status_by : Bool → Bool → Status
status_by some faulty = if faulty then Error else if some then Selected else NoneSelected

-- what is due after the rows of the lines of source k was written: what follows them and the
-- message, or a beginning of these where a write failed; nothing where its search was given up
module _ (options : Options) (many : Bool) (name : Text) (k : ℕ)
    (old new messages_old messages_new : Writer) where
  abbrev pub EndsSource : Result FileFound SearchFault → Result FileFound RunFault → Type 0
  EndsSource (Ok found) (Ok same) =
      (same ≡ found) ×
      TakesAll old new (summary_as (form options) many name found.end found.selected) ×
      TakesAll messages_old messages_new (reported_of options.no_messages found.end name)
  EndsSource (Ok found) (Err Write) =
      TakesFront old new (summary_as (form options) many name found.end found.selected) ×
      (new.failures ≡ one_more old.failures) × (messages_new ≡ messages_old)
  EndsSource (Ok found) (Err MessageWrite) =
      TakesAll old new (summary_as (form options) many name found.end found.selected) ×
      TakesFront messages_old messages_new (reported_of options.no_messages found.end name) ×
      (messages_new.failures ≡ one_more messages_old.failures)
  EndsSource (Ok found) (Err (Memory at n)) = ⊥
  EndsSource (Err search_fault.Write) result =
      (result ≡ Err Write) × (new ≡ old) × (messages_new ≡ messages_old)
  EndsSource (Err (search_fault.Memory n)) result =
      (result ≡ Err (Memory k n)) × (new ≡ old) × (messages_new ≡ messages_old)

-- `began` and `ended` are what was counted before and after the search, which is no more than that
-- of the file's lines costs.
-- `shown` says whether an earlier source has a selected line.
-- `given l` says that readers that had l left were returned in the search of the source
module _ (es : List Expression) (options : Options) (many shown : Bool) (source : Source)
    (given : List (Option Text) → Type 0) where
  -- how often the devices failed in the source, where a fault is met in it, and what its reader had
  -- left
  pub record CountsSource (reading : Reading) (before after : ℕ) : Type 0 where
    pub own : ℕ
    pub are_own : IfHolds (FaultMet es options (file_of source.name reading))
        (own ≡ failures_of reading) (own ≡ 0)
    pub counted : after ≡ count_more before own
    pub left : List (Option Text)
    pub are_left : AreLeft source reading left
    pub gave_back : given left

  -- a beginning of what is written of the source's file was written, and a write failed
  pub record BreaksSource (failed_before failed : ℕ) (old new : Writer)
      (began ended : Steps) : Type 0 where
    pub reading : Reading
    pub is_reading : IsReadingOf source reading
    pub failures : CountsSource reading failed_before failed
    pub rows : List Text
    pub are_rows : GroupedAs es options many (form options) (file_of source.name reading ∷ []) rows
    pub wrote : TakesFront old new (rows_after (form options) shown rows)
    pub counted : new.failures ≡ one_more old.failures
    pub steps : SearchesLines options (length es) (file_of source.name reading).lines began ended

  -- the rows of the first n lines of the source's file were written, and no device failed
  pub record StopsSource (n failed_before failed : ℕ) (old new : Writer)
      (began ended : Steps) : Type 0 where
    pub reading : Reading
    pub is_reading : IsReadingOf source reading
    pub none_failed : failed ≡ failed_before
    pub rest : Option Text
    pub gave_back : given (rest ∷ [])
    pub in_file : n ≤ length (file_of source.name reading).lines
    pub read : HasRead source rest (take n (file_of source.name reading).lines)
    pub rows : List Text
    pub are_rows : GroupedAs es options many (form options)
        (begun (form options) n (file_of source.name reading)) rows
    pub wrote : TakesAll old new (rows_after (form options) shown rows)
    pub steps : SearchesLines options (length es) (file_of source.name reading).lines began ended

  -- the source was searched: it stands for a file, the rows of its output were written, and the
  -- summary is left
  pub record SearchesSource (failed_before failed : ℕ) (old new : Writer) (began ended : Steps)
      (end : FileEnd) (selected : ℕ) : Type 0 where
    pub reading : Reading
    pub is_reading : IsReadingOf source reading
    pub failures : CountsSource reading failed_before failed
    pub some : IsTrue (nat_lt 0 selected) ↔ HasSelected es options (file_of source.name reading)
    pub fault : IsTrue (is_fault end) ↔ FaultMet es options (file_of source.name reading)
    pub ends : IsTrue (is_fault end) → (file_of source.name reading).ending ≡ ending_of end
    pub rows : List Text
    pub are_rows : GroupedAs es options many (form options) (file_of source.name reading ∷ [])
        (rows ++ summary_as (form options) many source.name end selected)
    pub wrote : TakesAll old new (rows_after (form options) shown rows)
    pub steps : SearchesLines options (length es) (file_of source.name reading).lines began ended

  -- output and messages for the source's file were written
  pub record FinishesSource (old new : Devices) (end : FileEnd) (selected : ℕ) : Type 0 where
    pub reading : Reading
    pub is_reading : IsReadingOf source reading
    pub failures : CountsSource reading old.source_failures new.source_failures
    pub some : IsTrue (nat_lt 0 selected) ↔ HasSelected es options (file_of source.name reading)
    pub fault : IsTrue (is_fault end) ↔ FaultMet es options (file_of source.name reading)
    pub rows : List Text
    pub are_rows : GroupedAs es options many (form options) (file_of source.name reading ∷ []) rows
    pub wrote : TakesAll old.out new.out (rows_after (form options) shown rows)
    pub messages : List Text
    pub are_messages : Reported es options (file_of source.name reading ∷ []) messages
    pub reported : TakesAll old.messages new.messages messages
    pub steps : SearchesLines options (length es) (file_of source.name reading).lines old.steps
        new.steps

  -- the output for the source's file was written, and a write failed within its message
  pub record BreaksMessage (old new : Devices) : Type 0 where
    pub reading : Reading
    pub is_reading : IsReadingOf source reading
    pub failures : CountsSource reading old.source_failures new.source_failures
    pub rows : List Text
    pub are_rows : GroupedAs es options many (form options) (file_of source.name reading ∷ []) rows
    pub wrote : TakesAll old.out new.out (rows_after (form options) shown rows)
    pub messages : List Text
    pub are_messages : Reported es options (file_of source.name reading ∷ []) messages
    pub reported : TakesFront old.messages new.messages messages
    pub counted : new.messages.failures ≡ one_more old.messages.failures
    pub steps : SearchesLines options (length es) (file_of source.name reading).lines old.steps
        new.steps

  -- what a search of source k returns
  abbrev pub SourceGives : ℕ → Devices → Devices → Result FileFound RunFault → Type 0
  SourceGives k old new (Ok found) = FinishesSource old new found.end found.selected
  SourceGives k old new (Err Write) =
      BreaksSource old.source_failures new.source_failures old.out new.out old.steps new.steps ×
      (new.messages ≡ old.messages)
  SourceGives k old new (Err MessageWrite) = BreaksMessage old new
  SourceGives k old new (Err (Memory at n)) =
      (at ≡ k) ×
      StopsSource n old.source_failures new.source_failures old.out new.out old.steps new.steps ×
      (new.messages ≡ old.messages)
