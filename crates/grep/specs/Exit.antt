-- How the program ends after its command (XCU grep, EXIT STATUS and STDERR).
use Rattle.std.specs.Prelude.{◌≡◌, ℕ, nat_lt, List, [], ◌∷◌, ◌⊎◌, codes, Option, MatchBool}
use Rattle.grep_core.specs.Buffer.{SendsAll, SendsSome, all_contents, BufferedWriter}
use Rattle.grep_core.specs.{Meters.Steps, Run.{writer, Writer, devices}}
use Rattle.grep_utility.specs.Command.{CommandGives, SendsMessages, ReportsLines}
use Rattle.grep_utility.specs.{Texts.write_error, Folder.Folder, Bytes.Text}

abbrev pub words_refused : Text
words_refused = codes "grep: words must be UTF-8"

-- a write error is reported, but not if a message could not be written before
abbrev pub ReportsWriteError : Writer → Writer → Type 0
ReportsWriteError old new =
    MatchBool (nat_lt 0 old.failures) (new ≡ old) (ReportsLines old new (write_error ∷ []))

-- standard output, buffered; standard error, and how many bytes of messages wait before it; how
-- often a file could not be opened or read; and the steps that were counted
pub record Streams (W : Type 0) : Type 0 where
  pub out : BufferedWriter W
  pub messages : Writer
  pub waiting : ℕ
  pub source_failures : ℕ
  pub steps : Steps

abbrev pub streams : {W : Type 0} → BufferedWriter W → Writer → ℕ → ℕ → Steps → Streams W
streams out messages waiting failures steps = record {
  out = out;
  messages = messages;
  waiting = waiting;
  source_failures = failures;
  steps = steps;
}

module _ {W : Type 0} (contents : W → Option Text) (failures : W → ℕ) where
  -- if a write of the output failed before, nothing more is sent, and the status is the found one;
  -- otherwise all buffered output is sent, with the same status; or a beginning of it is sent, the
  -- write error is reported, and the status is 2
  abbrev pub EndsAs : BufferedWriter W → BufferedWriter W → Writer → Writer → ℕ → ℕ → Type 0
  EndsAs old new reported_before reported found status =
      MatchBool (nat_lt 0 (failures old.inner))
      ((new ≡ old) × (reported ≡ reported_before) × (status ≡ found))
      ((SendsAll contents failures old new × (reported ≡ reported_before) × (status ≡ found))
      ⊎ (SendsSome contents failures old new × ReportsWriteError reported_before reported × (status ≡ 2)))

  -- standard output as the command writes to it
  abbrev pub read_so_far : BufferedWriter W → Writer
  read_so_far = writer (all_contents contents) (λ out. failures out.inner)

  -- what the program does for its words: what the command does, then how the output ends, and then
  -- the messages
  pub record ProgramGives (folder : Folder) (returned_with : List (Option Text) → Type 0)
      (words : List Text) (old new : Streams W) (status : ℕ) : Type 0 where
    pub found : ℕ
    pub out : BufferedWriter W
    pub messages : Writer
    pub command : CommandGives folder returned_with
        (devices (read_so_far old.out) old.messages old.source_failures old.steps)
        (devices (read_so_far out) messages new.source_failures new.steps)
        found words
    pub ended : ℕ
    pub reported : Writer
    pub ends : EndsAs out new.out messages reported found ended
    pub sends : SendsMessages reported new.messages new.waiting ended status
