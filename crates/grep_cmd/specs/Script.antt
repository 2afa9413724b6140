-- Scripts of a session: a script's lines are commands, each with the lines that it counts.
use Rattle.std.specs.Prelude.{◌<◌, [], ℕ, ◌≡◌, None, ◌⊎◌, ⊤, ◌++◌, Option, List, Bool, Some, length}
use Rattle.std.specs.Prelude.{◌∷◌}
use Rattle.{re_syntax.specs.Bytes.Text, grep_core.specs.Files.{whole, Ending}}
use Rattle.{grep_session.specs.Edits.Edit, script_commands.specs.Commands.asks_version}
use Rattle.script_commands.specs.Commands.{switches_text, counts, edits, AsksForMemory, lists_page}
use Rattle.script_commands.specs.Commands.{shows, Command, line_command, lists_changes}

-- what a command line asks for
pub data Step : Type 0 where
  does : Edit → Step
  reports : Step
  reports_changes : Step
  reports_page : ℕ → ℕ → Step
  tells_version : Step
  -- the rows of hits have their text from now on, or not
  sets_text : Bool → Step
  -- the line is no command
  is_bad : Step
  -- it counts more lines than follow
  is_truncated : Step

-- whether the rows of hits have their text after a step
abbrev pub text_after : Step → Bool → Bool
text_after (sets_text on) texts = on
text_after _ texts = texts

-- the step of a command line, with the lines that it takes
abbrev pub IsStep : Option Command → List Text → Step → Type 0
IsStep (Some (edits edit)) taken step = (taken ≡ []) × (step ≡ does edit)
IsStep (Some (counts count edit)) taken step = (length taken ≡ count) × (step ≡ does (edit taken))
IsStep (Some shows) taken step = (taken ≡ []) × (step ≡ reports)
IsStep (Some lists_changes) taken step = (taken ≡ []) × (step ≡ reports_changes)
IsStep (Some (lists_page first count)) taken step = (taken ≡ []) × (step ≡ reports_page first count)
IsStep (Some asks_version) taken step = (taken ≡ []) × (step ≡ tells_version)
IsStep (Some (switches_text on)) taken step = (taken ≡ []) × (step ≡ sets_text on)
IsStep None taken step = (taken ≡ []) × (step ≡ is_bad)

-- the lines are a command line that counts more lines than follow
abbrev pub WantsMore : Option Command → List Text → Type 0
WantsMore (Some (counts count edit)) taken = length taken < count
WantsMore _ taken = ⊥

abbrev pub IsUnfinished : List Text → Type 0
IsUnfinished [] = ⊥
IsUnfinished (line ∷ taken) = WantsMore (line_command line) taken

-- the lines are the first of one such command, or none
abbrev pub IsBegun : List Text → Type 0
IsBegun [] = ⊤
IsBegun (line ∷ taken) = AsksForMemory (line_command line) taken

-- the first lines of a script are these steps, each a command line and the lines that it takes, and
-- the rest is left. Where the script was read to its end, a command that counts more lines than
-- follow takes them all
abbrev pub Steps : Ending → List Text → List Step → List Text → Type 0
Steps ending lines [] rest = rest ≡ lines
Steps ending lines (step ∷ steps) rest =
    ((line : Text) × (taken : List Text) × (more : List Text) × (lines ≡ line ∷ taken ++ more) ×
    IsStep (line_command line) taken step × Steps ending more steps rest)
    ⊎ ((ending ≡ whole) × IsUnfinished lines × (step ≡ is_truncated) × (steps ≡ []) × (rest ≡ []))
