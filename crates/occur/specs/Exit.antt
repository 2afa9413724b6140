-- How the program reports its faults, and its exit status.
use Rattle.std.specs.Prelude.{◌≡◌, ◌≢◌, ℕ, [], ◌∷◌, ◌++◌, codes, Option, Result, Ok, Err}
use Rattle.clap.specs.declared.error.kind.ErrorKind.TheVariants.{DisplayVersion, DisplayHelp}
use Rattle.clap.specs.declared.error.kind.ErrorKind.{ErrorKind}
use Rattle.grep_core.specs.{Buffer.{BufferedWriter, all_contents}, Meters.Steps, Run.Writer}
use Rattle.grep_cmd.specs.Replies.{GaveLines, ScriptGives, ScriptState, new_state}
use Rattle.grep_cmd.specs.declared.script.ScriptEnd.{TheVariants.{Refused, Clean}, ScriptEnd}
use Rattle.grep_cmd.specs.declared.script.ScriptFault.TheVariants.{Memory, Write, Read}
use Rattle.grep_cmd.specs.{declared.script.ScriptFault.ScriptFault, Bytes.Text}
use Rattle.grep_utility.specs.Command.{ReportsLines, SendsMessages}

abbrev pub words_refused : Text
words_refused = codes "occur: words must be UTF-8"

abbrev pub usage : Text
usage = codes "usage: occur [--states N] [SCRIPT]"

abbrev pub out_of_memory : Text
out_of_memory = codes "occur: out of memory"

abbrev pub cannot_open : Text → Text
cannot_open name = codes "occur: " ++ name ++ codes ": cannot open"

-- the message about a script that was not run to its end
abbrev pub fault_text : ScriptFault → Text
fault_text Read = codes "occur: read error"
fault_text Write = codes "occur: write error"
fault_text Memory = out_of_memory

-- a script that was run to its end has status 0 or, if a command was refused, 1, and nothing is
-- reported; otherwise the fault is reported, and the status is 2
abbrev pub EndsScript : Result ScriptEnd ScriptFault → Writer → Writer → ℕ → Type 0
EndsScript (Ok Clean) old new status = (status ≡ 0) × (new ≡ old)
EndsScript (Ok Refused) old new status = (status ≡ 1) × (new ≡ old)
EndsScript (Err fault) old new status = (status ≡ 2) × ReportsLines old new (fault_text fault ∷ [])

-- the script: the bytes that its reader has left, where they are known, and how often reads failed;
-- standard output, buffered; standard error, and how many bytes of messages wait before it; and the
-- steps that were counted
pub record Streams (W : Type 0) : Type 0 where
  pub script : Option Text
  pub script_failures : ℕ
  pub out : BufferedWriter W
  pub messages : Writer
  pub waiting : ℕ
  pub steps : Steps

abbrev pub streams : {W : Type 0} → Option Text → ℕ → BufferedWriter W → Writer → ℕ → Steps →
    Streams W
streams script failures out messages waiting steps = record {
  script = script;
  script_failures = failures;
  out = out;
  messages = messages;
  waiting = waiting;
  steps = steps;
}

module _ {W : Type 0} (contents : W → Option Text) (failures waiting : W → ℕ) (states : ℕ) where
  -- what the program does for a script: it is answered from the state of a new session, in which
  -- each pattern may keep so many states, and then the program ends; unless a write failed, all
  -- replies were sent
  pub record ProgramGives (old new : Streams W) (status : ℕ) : Type 0 where
    pub ended : Result ScriptEnd ScriptFault
    pub left : ScriptState
    pub script : ScriptGives (all_contents contents) (λ out. failures out.inner)
        (GaveLines old.script new.script) old.script new.script old.script_failures
        new.script_failures (new_state states) left old.steps new.steps old.out new.out ended
    pub sent : ended ≢ Err Write → (new.out.waiting ≡ []) × (waiting new.out.inner ≡ 0)
    pub reported : Writer
    pub found : ℕ
    pub ends : EndsScript ended old.messages reported found
    pub sends : SendsMessages reported new.messages new.waiting found status

-- refused words have status 2, those that ask for help or the version status 0
abbrev pub words_status : ErrorKind → ℕ
words_status DisplayHelp = 0
words_status DisplayVersion = 0
words_status _ = 2
