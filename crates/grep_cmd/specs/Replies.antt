-- The replies to a script (occur(1), REPLIES), and what a run of it writes and returns.
use Rattle.std.specs.{Fmt.decimal, Io.KnownBytes.{prepend_known, Consumes}, List.list_any}
use Rattle.std.specs.Prelude.{◌+◌, ◌∷◌, true, length, Err, map, ◌⊎◌, [], ◌≡◌, if◌then◌else◌, List}
use Rattle.std.specs.Prelude.{ℕ, take, drop, bytes_eq, Bool, ◌≢◌, Option, codes, Ok, ◌++◌, Result}
use Rattle.{re_syntax.specs.{Bytes.Text, Lines.lines_of}, grep_core.specs.Output.written}
use Rattle.grep_core.specs.{Files.{File, Inputs, broken, whole}, Reading.{file_of, Reading}}
use Rattle.grep_core.specs.Reading.{IsOneLineAndFew, failures_of, open_source, AreLeft, IsReadingOf}
use Rattle.grep_core.specs.{Run.count_more, Meters.{AddsAtMost, Steps as StepCounts}}
use Rattle.grep_core.specs.declared.status.Status.TheVariants.{Error, NoneSelected, Selected}
use Rattle.grep_core.specs.{declared.status.Status.Status, Written.{StopsWithin, Writes, GoesOut}}
use Rattle.grep_session.specs.{declared.fault.EditFault.EditFault, Edits.{Edit, EditGives}}
use Rattle.grep_session.specs.{Headline.GrepGives, Touched.{NeedsNoMemory, Costs}, Marks.Watched}
use Rattle.grep_session.specs.Marks.{new_watched, all_known, MarksGiven}
use Rattle.grep_cmd.specs.declared.script.ScriptEnd.{TheVariants.{Clean, Refused}, ScriptEnd}
use Rattle.grep_cmd.specs.declared.script.ScriptFault.TheVariants.{Memory, Read, Write}
use Rattle.grep_cmd.specs.{declared.script.ScriptFault.ScriptFault, Script.{Step, does, reports}}
use Rattle.grep_cmd.specs.Script.{reports_changes, reports_page, is_bad, is_truncated}
use Rattle.grep_cmd.specs.Script.{tells_version, sets_text, Steps, IsUnfinished, IsBegun}
use Rattle.grep_live.specs.{Reported.{AllChanges, AllHits}, Rows.{changes_rows, page_lines}}
use Rattle.grep_utility.specs.Texts.{kind_name}
use Rattle.grep_session.specs.declared.fault.EditFault.TheVariants as fault

-- ---- replies

-- why an edit was refused: the name of its fault; of a pattern also its place, the kind of its
-- fault and where that is in it
unfoldable pub cause : EditFault → Text
cause fault.NoSuchFile = codes "NoSuchFile"
cause fault.FileIsMissing = codes "FileIsMissing"
cause fault.OutOfRange = codes "OutOfRange"
cause fault.LineHasNewline = codes "LineHasNewline"
cause fault.NoSuchPattern = codes "NoSuchPattern"
cause (fault.Pattern place why) =
    codes "Pattern " ++ decimal place ++ codes " " ++ kind_name why.kind ++ codes " " ++
    decimal why.at
cause fault.TooManyPatterns = codes "TooManyPatterns"
cause fault.Memory = codes "Memory"

abbrev pub refused_for : Text → Text
refused_for text = codes "refused " ++ text

abbrev pub reply_to : {T : Type 0} → Result T EditFault → Text
reply_to (Ok done) = codes "ok"
reply_to (Err fault) = refused_for (cause fault)

abbrev pub bad_command : Text
bad_command = refused_for (codes "BadCommand")

abbrev pub truncated : Text
truncated = refused_for (codes "Truncated")

-- the version of the program, and that of scripts
abbrev pub version_line : Text
version_line = codes "occur 1.0.0 script 2"

abbrev pub is_refusal : Text → Bool
is_refusal line = bytes_eq (take 8 line) (codes "refused ")

-- the state of a script: that of its session, and whether the rows of hits have their text
pub record ScriptState : Type 0 where
  pub session : Watched
  pub texts : Bool

-- the state with a new session; each pattern may keep so many states
abbrev pub new_state : ℕ → ScriptState
new_state states = record { session = new_watched states; texts = true }

-- an edit was answered so; where it needs no memory it was not refused as out of memory
pub record IsAnswered (edit : Edit) (before after : Watched)
    (answer : Result (Unit {0}) EditFault) : Type 0 where
  pub gives : EditGives edit before.inputs after.inputs answer
  pub marks : MarksGiven edit before after.marks answer
  pub same_states : after.states ≡ before.states
  pub named : NeedsNoMemory edit before.inputs → answer ≢ Err fault.Memory

abbrev pub status_line : Status → Text
status_line Selected = codes "status 0"
status_line NoneSelected = codes "status 1"
status_line Error = codes "status 2"

abbrev pub with_margin : Text → List Text → List Text
with_margin margin text = map (λ line. margin ++ line) text

-- the lines that are shown of the inputs
pub record AreShown (inputs : Inputs) (shown : List Text) : Type 0 where
  pub grep : GrepGives inputs
  pub is : shown ≡ with_margin (codes "o ") grep.out ++
      (with_margin (codes "e ") grep.reported ++ status_line grep.status ∷ [])

-- they were written, or a beginning of them
abbrev pub Shows : {W T E : Type 0} → (W → Option Text) → (W → ℕ) → Inputs → W → W → Result T E →
    Type 0
Shows contents failures inputs old new result =
    (shown : List Text) × AreShown inputs shown ×
    Writes contents failures old new (written [] shown) result

-- the rows of what changed of each file, with texts or without, and the status
pub record ReportsChanges (texts : Bool) (before after : Watched) (rows : List Text) : Type 0 where
  pub all : AllChanges before
  pub is : rows ≡ changes_rows texts 0 all.changes ++ status_line all.status ∷ []
  pub leaves : after ≡ all_known before

-- the number of hits, at most `count` of them from number `first` on, and the status
pub record ReportsPage (texts : Bool) (inputs : Inputs) (first count : ℕ)
    (rows : List Text) : Type 0 where
  pub all : AllHits inputs
  pub is : rows ≡ page_lines texts first count all.view ++ status_line all.status ∷ []

-- the reply to a step, and what it makes of the state
abbrev pub RepliesTo : Step → ScriptState → List Text → ScriptState → Type 0
RepliesTo (does edit) before reply after =
    (answer : Result (Unit {0}) EditFault) ×
    IsAnswered edit before.session after.session answer × (after.texts ≡ before.texts) ×
    (reply ≡ reply_to answer ∷ [])
RepliesTo reports before reply after = AreShown before.session.inputs reply × (after ≡ before)
RepliesTo reports_changes before reply after =
    ReportsChanges before.texts before.session after.session reply ×
    (after.texts ≡ before.texts)
RepliesTo (reports_page first count) before reply after =
    ReportsPage before.texts before.session.inputs first count reply × (after ≡ before)
RepliesTo tells_version before reply after = (reply ≡ version_line ∷ []) × (after ≡ before)
RepliesTo (sets_text on) before reply after =
    (reply ≡ codes "ok" ∷ []) × (after ≡ record before { texts = on })
RepliesTo is_bad before reply after = (reply ≡ bad_command ∷ []) × (after ≡ before)
RepliesTo is_truncated before reply after = (reply ≡ truncated ∷ []) × (after ≡ before)

-- a command takes this many steps of search at most: none, or what its edit costs; what is no edit
-- searches nothing
abbrev pub SearchesAtMost : Step → Inputs → ℕ → Type 0
SearchesAtMost (does edit) before most = (most ≡ 0) ⊎ Costs edit before most
SearchesAtMost _ before most = most ≡ 0

-- the replies to some steps, one after the other, what these make of the state, and how many steps
-- of search they take at most
abbrev pub Replies : List Step → ScriptState → List Text → ScriptState → ℕ → Type 0
Replies [] before replies after most = (replies ≡ []) × (after ≡ before) × (most ≡ 0)
Replies (step ∷ steps) before replies after most =
    (reply : List Text) × (between : ScriptState) × (rest : List Text) × (own : ℕ) × (more : ℕ) ×
    RepliesTo step before reply between × SearchesAtMost step before.session.inputs own ×
    Replies steps between rest after more × (replies ≡ reply ++ rest) × (most ≡ own + more)

-- ---- runs

-- how a script ends that was answered with these replies
abbrev pub end_for : List Text → ScriptEnd
end_for replies = if list_any is_refusal replies then Refused else Clean

-- the first steps of a script, whose lines are those of a file, with the lines after them, were
-- answered so; no more steps of search were taken, and no more bytes passed, than their edits cost
pub record AnswersScript (before : ScriptState) (file : File) (begun spent : StepCounts)
    (replies rest : List Text) (after : ScriptState) : Type 0 where
  pub steps : List Step
  pub are_steps : Steps file.ending file.lines steps rest
  pub most : ℕ
  pub are_replies : Replies steps before replies after most
  pub few : AddsAtMost most begun spent

-- the bytes have, before others, the replies to all of some commands but the last
pub record HasAllButLast (steps : List Step) (before : ScriptState) (bytes : Text) : Type 0 where
  pub sent : List Text
  pub between : ScriptState
  pub most : ℕ
  pub are_replies : Replies (take (length (drop 1 steps)) steps) before sent between most
  pub more : Text
  pub are_first : bytes ≡ written [] sent ++ more

-- the state that is left is the one after the commands; or what the last of them, `changes`, had to
-- report is still to report
abbrev pub IsUpToReport : ScriptState → ScriptState → Type 0
IsUpToReport left after =
    (left ≡ after) ⊎ (record left { session = all_known left.session } ≡ after)

-- a script that was read is a file: what its reader had left before and has now, and how often its
-- reads had failed before and have now
pub record ReadsScript (known left : Option Text) (failed_before failed : ℕ)
    (file : File) : Type 0 where
  pub reading : Reading
  pub is_reading : IsReadingOf (open_source [] known) reading
  pub is_left : AreLeft (open_source [] known) reading (left ∷ [])
  pub is_file : file ≡ file_of [] reading
  pub counted : failed ≡ count_more failed_before (failures_of reading)

-- a script may be such a file, after some of its lines were read
pub record BeginsScript (known : Option Text) (failed_before failed : ℕ)
    (file : File) : Type 0 where
  pub reading : Reading
  pub is_reading : IsReadingOf (open_source [] known) reading
  pub is_file : file ≡ file_of [] reading
  pub none_failed : failed ≡ failed_before

-- a reader gave these lines: the bytes that it had are those of the lines, those that were read
-- past them, and those that it has left; but for the last ones, which a buffer holds, those that
-- were read past them are the beginning of one line
pub record GaveLines (known left : Option Text) (lines : List Text) : Type 0 where
  pub given : Text
  pub are_lines : lines_of given ≡ lines
  pub ahead : Text
  pub gave : Consumes known (prepend_known ahead left) given
  pub few : IsOneLineAndFew ahead

-- the rest of a script whose reading failed holds no whole command
abbrev pub IsCutShort : List Text → Type 0
IsCutShort rest = (rest ≡ []) ⊎ IsUnfinished rest

-- `has_read lines` says that these lines of the script were read, and no more
module _ {W : Type 0} (contents : W → Option Text) (failures : W → ℕ)
    (has_read : List Text → Type 0) (known left : Option Text) (failed_before failed : ℕ)
    (before after : ScriptState) (begun spent : StepCounts) (old new : W) where
  -- all commands were answered
  pub record Ends (ending : ScriptEnd) : Type 0 where
    pub file : File
    pub reads : ReadsScript known left failed_before failed file
    pub is_whole : file.ending ≡ whole
    pub replies : List Text
    pub answers : AnswersScript before file begun spent replies [] after
    pub goes : GoesOut contents failures old new (written [] replies)
    pub ended : ending ≡ end_for replies

  -- a read failed, or there are more lines than can be numbered: the commands before that were
  -- answered
  pub record IsCut : Type 0 where
    pub file : File
    pub reads : ReadsScript known left failed_before failed file
    pub is_broken : file.ending ≡ broken
    pub replies : List Text
    pub rest : List Text
    pub answers : AnswersScript before file begun spent replies rest after
    pub cut_short : IsCutShort rest
    pub goes : GoesOut contents failures old new (written [] replies)

  -- an allocation failed: the lines that were read are those of all commands that were answered,
  -- and the first of one more command or none of it
  pub record RunsOut : Type 0 where
    pub file : File
    pub reads : BeginsScript known failed_before failed file
    pub replies : List Text
    pub done : List Text
    pub first : List Text
    pub others : List Text
    pub is_file : file.lines ≡ done ++ (first ++ others)
    pub answers : AnswersScript before file begun spent replies (first ++ others) after
    pub is_begun : IsBegun first
    pub were_read : has_read (done ++ first)
    pub goes : GoesOut contents failures old new (written [] replies)

  -- a write failed: the replies to the first commands were written, and a beginning of the last of
  -- them. These were done, but where the last is `changes`, it may still have all to report
  pub record StopsWriting : Type 0 where
    pub file : File
    pub reads : BeginsScript known failed_before failed file ⊎
        ReadsScript known left failed_before failed file
    pub replies : List Text
    pub rest : List Text
    pub done : ScriptState
    pub answers : AnswersScript before file begun spent replies rest done
    pub leaves : IsUpToReport after done
    pub stops : StopsWithin contents failures old new (written [] replies)
    pub broken : HasAllButLast answers.steps before stops.front

  -- what a script that is answered from a state on writes, counts, returns and leaves
  abbrev pub ScriptGives : Result ScriptEnd ScriptFault → Type 0
  ScriptGives (Ok ending) = Ends ending
  ScriptGives (Err Read) = IsCut
  ScriptGives (Err Memory) = RunsOut
  ScriptGives (Err Write) = StopsWriting
