-- Editors: the lists that an editor makes by the replies alone, and that they are the present hits.
use Rattle.std.specs.Prelude.{◌⊎◌, ◌∷◌, ◌≢◌, ◌++◌, ℕ, map, ◌^◌, ◌+◌, List, length, take, [], Bool}
use Rattle.std.specs.Prelude.{◌<◌, true, if◌then◌else◌, codes, false, bytes_eq, ◌≡◌}
use Rattle.std.specs.List.{list_any, sum_by, All, AllZip}
use Rattle.re_syntax.specs.{Bytes.Text, Expression.Expression}
use Rattle.grep_core.specs.{declared.status.Status.Status, Choose.IfHolds}
use Rattle.grep_core.specs.{Meters.Steps as StepCounts, Files.{File, Mean}}
use Rattle.grep_live.specs.{Hits.{View, AreHits, Hit}, Changes.{all_after, Change}}
use Rattle.grep_live.specs.{Follows.{view_after, Follows}, Rows.changes_rows}
use Rattle.{grep_session.specs.Marks.Watched, grep_cmd.specs.Script.{Step, does, reports}}
use Rattle.grep_cmd.specs.Script.{reports_changes, reports_page, sets_text, text_after}
use Rattle.grep_cmd.specs.Replies.{status_line, ScriptState, new_state, AnswersScript, Replies}

abbrev pub has_status : Text → Bool
has_status line = bytes_eq (take 7 line) (codes "status ")

-- of the lines the last alone has the status
abbrev pub EndsWithStatus : List Text → Type 0
EndsWithStatus lines =
    (rows : List Text) × (last : Text) × (lines ≡ rows ++ last ∷ []) ×
    (list_any has_status rows ≡ false) × (has_status last ≡ true)

-- an editor takes this many lines as the reply to a step: those up to the status, or one line
abbrev pub IsOneReply : Step → List Text → Type 0
IsOneReply reports reply = EndsWithStatus reply
IsOneReply reports_changes reply = EndsWithStatus reply
IsOneReply (reports_page first count) reply = EndsWithStatus reply
IsOneReply _ reply = length reply ≡ 1

-- a number that an editor can hold
abbrev pub IsHeld : ℕ → Type 0
IsHeld n = n < 2 ^ 64

abbrev pub IsHeldPart : ℕ × ℕ → Type 0
IsHeldPart part = IsHeld part.0 × IsHeld part.1

pub record IsHeldHit (hit : Hit) : Type 0 where
  pub place : IsHeld hit.place
  pub parts : All IsHeldPart hit.parts

pub record IsHeldChange (change : Change) : Type 0 where
  pub front : IsHeld change.front
  pub removed : IsHeld change.removed
  pub added : IsHeld change.added
  pub count : IsHeld (length change.come)
  pub hits : All IsHeldHit change.come

-- the reply to `changes` has the rows of these changes, with texts or without, some for each list
pub record ReadsChanges (texts : Bool) (reply : List Text) (view : View)
    (changes : List (List Change)) : Type 0 where
  pub status : Status
  pub is : reply ≡ changes_rows texts 0 changes ++ status_line status ∷ []
  pub one_each : length changes ≡ length view
  pub held : IsHeld (length view) × All (λ own. All IsHeldChange own) changes

-- a hit of a row: without its text where the row has none
abbrev pub read_hit : Bool → Hit → Hit
read_hit texts hit = record hit { text = if texts then hit.text else [] }

-- a change with the hits of its rows
abbrev pub read_change : Bool → Change → Change
read_change texts change = record change { come = map (read_hit texts) change.come }

-- the lists that an editor has after the reply to a step, where rows have their texts or not. At an
-- accepted edit it drops and adds lists. At the reply to `changes` it makes the changes that it
-- reads in the rows. All else leaves its lists
abbrev pub ListsAfter : Bool → Step → List Text → View → View → Type 0
ListsAfter texts (does edit) reply view new =
    IfHolds (reply ≡ codes "ok" ∷ []) (new ≡ view_after edit view) (new ≡ view)
ListsAfter texts reports_changes reply view new =
    (changes : List (List Change)) × ReadsChanges texts reply view changes ×
    (new ≡ all_after (map (map (read_change texts)) changes) view)
ListsAfter texts _ reply view new = new ≡ view

-- the lists that it has after the replies to some steps, which it takes one after the other
abbrev pub ListsAfterAll : Bool → List Step → List Text → View → View → Type 0
ListsAfterAll texts [] replies view new = (replies ≡ []) × (new ≡ view)
ListsAfterAll texts (step ∷ steps) replies view new =
    (reply : List Text) × (between : View) × (rest : List Text) × (replies ≡ reply ++ rest) ×
    IsOneReply step reply × ListsAfter texts step reply view between ×
    ListsAfterAll (text_after step texts) steps rest between new

-- the bytes of lines, each with its newline
abbrev pub bytes_of : List Text → ℕ
bytes_of lines = sum_by (λ line. length line + 1) lines

-- the lists are the present hits of each file
pub record ArePresent (state : Watched) (view : View) : Type 0 where
  pub es : List Expression
  pub are_meant : Mean state.inputs es
  pub are_hits : AreHits es state.inputs.options state.inputs.files view

-- no step is `text off`
abbrev pub HaveTexts : List Step → Type 0
HaveTexts steps = All (λ step. step ≢ sets_text false) steps

-- a hit is another, or that without its text
abbrev pub MayLackText : Hit → Hit → Type 0
MayLackText hit other = (hit ≡ other) ⊎ (hit ≡ record other { text = [] })

-- the lists are others, but hits may lack their text
abbrev pub AreButTexts : View → View → Type 0
AreButTexts view others = AllZip (λ hits own. AllZip MayLackText hits own) view others

-- an editor began with a new session and no list, and took the replies to some steps; what these
-- left, and the lists that it has now
pub record Took (states : ℕ) (steps : List Step) : Type 0 where
  pub replies : List Text
  pub state : ScriptState
  pub most : ℕ
  pub are_replies : Replies steps (new_state states) replies state most
  pub view : View
  pub lists : ListsAfterAll true steps replies [] view

pub record EditorsFollow : Type 0 where
  -- an editor can take all replies to a script of fewer than 2^64 bytes
  pub can : (states : ℕ) (script : File) (begun spent : StepCounts) (replies rest : List Text)
      (after : ScriptState) → bytes_of script.lines < 2 ^ 64 →
      (answers : AnswersScript (new_state states) script begun spent replies rest after) →
      (view : View) × ListsAfterAll true answers.steps replies [] view
  -- the replies alone decide its lists, however it reads them
  pub one : (texts : Bool) (steps : List Step) (replies : List Text) (view a b : View) →
      ListsAfterAll texts steps replies view a → ListsAfterAll texts steps replies view b → a ≡ b
  -- it takes the replies to the first steps first, so that what follows is said of each time in a
  -- script
  pub begin : (states : ℕ) (first later : List Step) (t : Took states (first ++ later)) →
      (begun : Took states first) × (rest : List Text) × (t.replies ≡ begun.replies ++ rest)
  -- where no step was `text off`, its lists follow
  pub follow : (states : ℕ) (steps : List Step) (t : Took states steps) → HaveTexts steps →
      Follows t.state.session t.view
  -- and after the reply to `changes` they are the present hits
  pub present : (states : ℕ) (steps : List Step) (t : Took states (steps ++ reports_changes ∷ [])) →
      HaveTexts steps → ArePresent t.state.session t.view
  -- in all scripts they are such lists, but hits may lack their text
  pub follow_but_texts : (states : ℕ) (steps : List Step) (t : Took states steps) →
      (others : View) × AreButTexts t.view others × Follows t.state.session others
  pub present_but_texts : (states : ℕ) (steps : List Step)
      (t : Took states (steps ++ reports_changes ∷ [])) →
      (others : View) × AreButTexts t.view others × ArePresent t.state.session others
