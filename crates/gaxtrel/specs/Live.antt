-- What C keeps of a session, and how a text of commands is answered.
use Rattle.std.specs.Prelude.{◌≡◌, ℕ, ◌++◌, ◌⊎◌, List, [], Option, Some, drop, length, take}
use Rattle.re_syntax.specs.{Bytes.Text, Lines.{HasNoNewline, lines_of}}
use Rattle.{re_meter.specs.Meters.Steps, grep_core.specs.{Files.{File, whole}, Output.written}}
use Rattle.script_commands.specs.Commands.{Command, counts, line_command}
use Rattle.grep_cmd.specs.declared.script.ScriptEnd.{TheVariants.{Clean, Refused}, ScriptEnd}
use Rattle.grep_cmd.specs.Replies.{AnswersScript, HasAllButLast, IsUpToReport, ScriptState, end_for}

-- the state of a session, and the bytes of the replies to the commands of the last call
pub record LiveKept : Type 0 where
  pub state : ScriptState
  pub replies : Text

-- the bytes over those of an array, as far as there is room
abbrev pub text_over : Text → Text → Text
text_over text old = take (length old) text ++ drop (length text) old

-- the commands of a text, whose last line may lack its newline
abbrev pub commands_of : Text → File
commands_of text = record { name = []; lines = lines_of text; ending = whole }

-- the number of how commands were answered: none was refused, or some
abbrev pub end_number : ScriptEnd → ℕ
end_number Clean = 0
end_number Refused = 1

module _ (before : ScriptState) (text : Text) (begun : Steps) (after : LiveKept) (spent : Steps)
  where
    -- all commands were answered
    pub record AnswersAll (answer : ℕ) : Type 0 where
      pub replies : List Text
      pub answers : AnswersScript before (commands_of text) begun spent replies [] after.state
      pub are_written : after.replies ≡ written [] replies
      pub ended : answer ≡ end_number (end_for replies)

    -- memory was refused: the first commands were done, but where the last of them is `changes`, it
    -- may still have all to report; the replies to all but the last are kept, and a beginning of it
    pub record AnswersFirst : Type 0 where
      pub replies : List Text
      pub rest : List Text
      pub done : ScriptState
      pub answers : AnswersScript before (commands_of text) begun spent replies rest done
      pub leaves : IsUpToReport after.state done
      pub unwritten : Text
      pub are_begun : written [] replies ≡ after.replies ++ unwritten
      pub broken : HasAllButLast answers.steps before after.replies

    -- the commands of a text were answered so
    abbrev pub AnswersText : ℕ → Type 0
    AnswersText answer = AnswersAll answer ⊎ ((answer ≡ 2) × AnswersFirst)

-- how many lines a command counts
abbrev pub count_of : Option Command → ℕ
count_of (Some (counts count edit)) = count
count_of _ = 0

-- a command without a newline, and as many lines as it counts
abbrev pub IsOneCommand : Text → Text → Type 0
IsOneCommand command lines =
    HasNoNewline command × (length (lines_of lines) ≡ count_of (line_command command))

-- the answer where nothing is done: 3 if they are none, 2 if memory is refused before that is known
abbrev pub IsNoEdit : Text → Text → ℕ → Type 0
IsNoEdit command lines answer = (answer ≡ 2) ⊎ ((answer ≡ 3) × (IsOneCommand command lines → ⊥))
