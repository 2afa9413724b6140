-- How a script is answered, one command after the other.
use Rattle.std.specs.Prelude.{None, ◌≡◌, Some, ◌∷◌, ◌++◌, Err, Bool, false, ℕ, Result, ◌⊎◌, []}
use Rattle.std.specs.{Prelude.{Option, true, Ok, List, ◌≤◌, ◌<◌, length}, List.list_any}
use Rattle.{re_syntax.specs.Bytes.Text, grep_core.specs.Meters.{Steps as StepCounts, AddsAtMost}}
use Rattle.grep_core.specs.{Files.{Ending, whole, broken}, Output.written}
use Rattle.grep_core.specs.Working.Numbered.{Numbered, StandsAs, HasHanded}
use Rattle.grep_core.specs.{Reading.IsOneLineAndFew, Written.{GoesOut, StopsWithin}}
use Rattle.grep_session.specs.{Marks.Watched, declared.fault.EditFault.EditFault}
use Rattle.grep_cmd.specs.Replies.{ScriptState, SearchesAtMost, truncated, IsUpToReport, is_refusal}
use Rattle.grep_cmd.specs.{Replies.{Replies, end_for, RepliesTo}, Script.{WantsMore, IsStep, Step}}
use Rattle.grep_cmd.specs.declared.script.ScriptFault.TheVariants.{Read, Memory, Write}
use Rattle.grep_cmd.specs.declared.script.{ScriptFault.ScriptFault, reply.Answer.Answer}
use Rattle.grep_cmd.specs.declared.script.reply.Answer.TheVariants.{Truncated, Accepted, Refused}
use Rattle.grep_cmd.specs.declared.script.ScriptEnd.{ScriptEnd}
use Rattle.script_commands.specs.Commands.{AsksForMemory, line_command}

-- the state of a script by its session and its flag
abbrev pub state_of : Watched → Bool → ScriptState
state_of session texts = record { session = session; texts = texts }

-- how an edit was answered
abbrev pub answer_for : {T : Type 0} → Result T EditFault → Answer
answer_for (Ok done) = Accepted
answer_for (Err fault) = Refused

abbrev pub was_refused : Answer → Bool
was_refused Accepted = false
was_refused Refused = true
was_refused Truncated = true

-- ---- the next lines

-- these lines were handed out, and what was read past them is the beginning of one line, but for the
-- last 65,536 bytes
abbrev pub HasRead : {R : Type 0} → (R → Option Text) → (R → ℕ) → R → Numbered R → List Text → Type 0
HasRead remaining failures reader now lines =
    HasHanded remaining failures reader now lines × IsOneLineAndFew now.lines.ahead

module _ {R : Type 0} (remaining : R → Option Text) (failures : R → ℕ) (reader : R)
    (handed : List Text) where
  -- after these lines one more was handed out, or they are all, or a read failed; else nothing is
  -- lost
  abbrev pub ReadsNext : Numbered R → Result Bool ScriptFault → Type 0
  ReadsNext now (Ok true) = HasHanded remaining failures reader now (handed ++ now.lines.line ∷ [])
  ReadsNext now (Ok false) = StandsAs remaining failures reader now handed whole
  ReadsNext now (Err Read) = StandsAs remaining failures reader now handed broken
  ReadsNext now (Err fault) = HasHanded remaining failures reader now handed

  -- after these lines the counted number was taken; or fewer are left; or a read failed before; or
  -- no more than these were taken
  abbrev pub TakesLines : ℕ → Numbered R → Result (Option (List Text)) ScriptFault → Type 0
  TakesLines count now (Ok (Some taken)) =
      (length taken ≡ count) × HasHanded remaining failures reader now (handed ++ taken)
  TakesLines count now (Ok None) =
      (taken : List Text) × (length taken < count) ×
      StandsAs remaining failures reader now (handed ++ taken) whole
  TakesLines count now (Err Read) =
      (taken : List Text) × (length taken < count) ×
      StandsAs remaining failures reader now (handed ++ taken) broken
  TakesLines count now (Err fault) =
      (taken : List Text) × (length taken ≤ count) ×
      HasHanded remaining failures reader now (handed ++ taken)

module _ {W : Type 0} (contents : W → Option Text) (failures : W → ℕ) (old new : W) where
  -- what was buffered was sent, or that failed
  abbrev pub FlushesFor : ScriptFault → Type 0
  FlushesFor Write = StopsWithin contents failures old new []
  FlushesFor fault = GoesOut contents failures old new []

  abbrev pub Flushes : {T : Type 0} → Result T ScriptFault → Type 0
  Flushes (Ok value) = GoesOut contents failures old new []
  Flushes (Err fault) = FlushesFor fault

  -- a reply was written, and the command was answered so
  abbrev pub Replied : List Text → Answer → Result Answer ScriptFault → Type 0
  Replied reply answer (Ok given) =
      (given ≡ answer) × GoesOut contents failures old new (written [] reply)
  Replied reply answer (Err Write) = StopsWithin contents failures old new (written [] reply)
  Replied reply answer (Err fault) = ⊥

  -- after a run that ended so what was buffered was sent, or that failed; where a write failed
  -- before, none is tried again
  abbrev pub FlushesAfter : Result ScriptEnd ScriptFault → Result ScriptEnd ScriptFault → Type 0
  FlushesAfter (Err Write) result = (new ≡ old) × (result ≡ Err Write)
  FlushesAfter ended result =
      (GoesOut contents failures old new [] × (result ≡ ended)) ⊎
      (StopsWithin contents failures old new [] × (result ≡ Err Write))

-- ---- one command

module _ {R : Type 0} (remaining : R → Option Text) (failures : R → ℕ) (reader : R)
    (handed : List Text) (line : Text) (now : Numbered R) (begun spent : StepCounts)
    (before : ScriptState) where
  -- a command was done, which left this, with this reply and no more steps of search than it costs
  pub record DoesStep (after : ScriptState) (reply : List Text) : Type 0 where
    pub taken : List Text
    pub step : Step
    pub has_handed : HasHanded remaining failures reader now (handed ++ taken)
    pub is_step : IsStep (line_command line) taken step
    pub replies_to : RepliesTo step before reply after
    pub most : ℕ
    pub is_most : SearchesAtMost step before.session.inputs most
    pub few : AddsAtMost most begun spent

  module _ (after : ScriptState) where
    -- fewer lines follow than the command counts, and then the reader ended so
    pub record WantsLines (ending : Ending) : Type 0 where
      pub taken : List Text
      pub wants : WantsMore (line_command line) taken
      pub stands : StandsAs remaining failures reader now (handed ++ taken) ending
      pub idle : spent ≡ begun
      pub same : after ≡ before

    -- an allocation failed for the command; these of its lines were taken
    pub record RunsShort : Type 0 where
      pub taken : List Text
      pub asks : AsksForMemory (line_command line) taken
      pub has_handed : HasHanded remaining failures reader now (handed ++ taken)
      pub idle : spent ≡ begun
      pub same : after ≡ before

    -- the command was given up
    pub record GivesUp : Type 0 where
      pub taken : List Text
      pub has_handed : HasHanded remaining failures reader now (handed ++ taken)
      pub idle : spent ≡ begun
      pub same : after ≡ before

    module _ {W : Type 0} (contents : W → Option Text) (write_failures : W → ℕ) (old new : W) where
      abbrev pub AnswersLine : Result Answer ScriptFault → Type 0
      AnswersLine (Ok Truncated) =
          WantsLines whole × GoesOut contents write_failures old new (written [] (truncated ∷ []))
      AnswersLine (Ok answer) =
          (reply : List Text) × DoesStep after reply ×
          GoesOut contents write_failures old new (written [] reply) ×
          (list_any is_refusal reply ≡ was_refused answer)
      AnswersLine (Err Read) = WantsLines broken × GoesOut contents write_failures old new []
      AnswersLine (Err Memory) = RunsShort × GoesOut contents write_failures old new []
      AnswersLine (Err Write) =
          (GivesUp × StopsWithin contents write_failures old new [])
          ⊎ (((then : ScriptState) × (reply : List Text) × DoesStep then reply ×
          IsUpToReport after then ×
          StopsWithin contents write_failures old new (written [] reply))
          ⊎ (WantsLines whole ×
          StopsWithin contents write_failures old new (written [] (truncated ∷ []))))

-- ---- the commands so far

-- the lines are these steps, none of which is truncated
abbrev pub AreDone : List Text → List Step → Type 0
AreDone lines [] = lines ≡ []
AreDone lines (step ∷ steps) =
    (line : Text) × (taken : List Text) × (more : List Text) × (lines ≡ line ∷ taken ++ more) ×
    IsStep (line_command line) taken step × AreDone more steps

module _ {R W : Type 0} (remaining : R → Option Text) (failures : R → ℕ)
    (contents : W → Option Text) (write_failures : W → ℕ) (reader : R)
    (first : ScriptState) (begun : StepCounts) (old : W) where
  -- the lines handed out so far were answered
  pub record AnsweredSoFar (now : Numbered R) (state : ScriptState) (spent : StepCounts) (new : W)
      (ending : ScriptEnd) : Type 0 where
    pub handed : List Text
    pub has_handed : HasHanded remaining failures reader now handed
    pub steps : List Step
    pub are_done : AreDone handed steps
    pub replies : List Text
    pub most : ℕ
    pub are_replies : Replies steps first replies state most
    pub few : AddsAtMost most begun spent
    pub goes : GoesOut contents write_failures old new (written [] replies)
    pub ended : ending ≡ end_for replies
