-- Where a search gets that goes on over a line by held pairs.
use Rattle.std.specs.Prelude.{ℕ, slice_get, length, Bool, ◌≡◌, suc, ◌≤◌, Some, false, slice_range}
use Rattle.std.specs.Prelude.{◌<◌, [], ◌-◌, ◌++◌}
use Rattle.re_trees.specs.{Lines.HasNoNewline, Bytes.Text}
use Rattle.{re_auto.specs.declared.step.state_set.StateSet.StateSet, re_meter.specs.Meters.Steps}
use Rattle.re_runs.specs.Working.Blocks.{PassesUnmatched}
use Rattle.re_steps.specs.declared.table.{StepTable.StepTable, LineSearch.LineSearch}
use Rattle.re_steps.specs.declared.walk.{Spot.Spot, Lines.Lines, Went.Went, Outcome.Outcome}
use Rattle.re_steps.specs.Working.{Stages.{Finishes, Stage, Goes, Cache}, Rows.{IsRow, LandsAlone}}
use Rattle.re_steps.specs.Working.Rows.{cache_of, Lands, ComesTo, walked, expression_in, IsRightFor}
use Rattle.re_steps.specs.declared.walk.Went.TheVariants as w
use Rattle.re_steps.specs.declared.walk.Outcome.TheVariants as o

-- a search that came from a first stage is at place j in this row of the table
abbrev pub IsAt : LineSearch → Stage → StepTable → Steps → ℕ → ℕ → Type 0
IsAt asked first t steps j r =
    ComesTo (expression_in asked) asked.mode asked.line.now first (cache_of t) steps j r

-- the same on another line
abbrev pub IsAtOf : LineSearch → Text → Stage → StepTable → Steps → ℕ → ℕ → Type 0
IsAtOf asked line first t steps j r =
    ComesTo (expression_in asked) asked.mode line first (cache_of t) steps j r

abbrev pub IsReported : LineSearch → Stage → StepTable → Steps → Bool → Type 0
IsReported asked first t steps answer =
    Finishes (expression_in asked) asked.mode asked.line.now first (cache_of t) steps answer

-- from this row of the table, a search goes over the byte, at any place of a line, by this cell
abbrev pub LandsBy : LineSearch → ℕ → StepTable → Steps → ℕ → StepTable → Steps → ℕ → Type 0
LandsBy asked byte old before r new after cell =
    (line : Text) (first : Stage) (j : ℕ) → slice_get line j ≡ Some byte →
    ComesTo (expression_in asked) asked.mode line first (cache_of old) before j r →
    Lands (expression_in asked) asked.mode line first (cache_of new) after j cell

-- it does so to this set, and nothing is held any more
abbrev pub LandsUnkept : LineSearch → ℕ → StepTable → Steps → ℕ → StateSet → Steps → Type 0
LandsUnkept asked byte old before r set after =
    (line : Text) (first : Stage) (j : ℕ) → slice_get line j ≡ Some byte →
    ComesTo (expression_in asked) asked.mode line first (cache_of old) before j r →
    LandsAlone (expression_in asked) asked.mode line first set after j

-- it went over the byte before this place by this cell
abbrev pub HasLanded : LineSearch → Stage → StepTable → Steps → ℕ → ℕ → Type 0
HasLanded asked first t steps place cell =
    (j : ℕ) × (suc j ≡ place) ×
    Lands (expression_in asked) asked.mode asked.line.now first (cache_of t) steps j cell

-- where a search goes on after the cell that led over the byte before this place
abbrev pub LeadsOn : LineSearch → StepTable → Steps → ℕ → ℕ → StepTable → Steps → Went → Type 0
LeadsOn asked old before place cell new after (w.To spot) =
    (place ≤ spot.place) × (spot.place ≤ length asked.line.now) × IsRow new spot.row
    × ((first : Stage) → HasLanded asked first old before place cell →
    IsAt asked first new after spot.place spot.row)
LeadsOn asked old before place cell new after (w.Reported answer) =
    (first : Stage) → HasLanded asked first old before place cell →
    IsReported asked first new after answer
LeadsOn asked old before place cell new after (w.Alone k) = ⊥

-- a search went on from a spot, over one byte or more
pub record ArrivesAt (asked : LineSearch) (old : StepTable) (before : Steps) (spot : Spot)
    (new : StepTable) (after : Steps) (next : Spot) : Type 0 where
  pub right : IsRightFor asked new
  pub on : spot.place < next.place
  pub within : next.place ≤ length asked.line.now
  pub row : IsRow new next.row
  pub comes : (first : Stage) → IsAt asked first old before spot.place spot.row →
      IsAt asked first new after next.place next.row

-- its answer is known
pub record ComesToSay (asked : LineSearch) (old : StepTable) (before : Steps) (spot : Spot)
    (new : StepTable) (after : Steps) (answer : Bool) : Type 0 where
  pub right : IsRightFor asked new
  pub finishes : (first : Stage) → IsAt asked first old before spot.place spot.row →
      IsReported asked first new after answer

-- it is at place k with the scratch set, and nothing is held any more
pub record ComesAlone (asked : LineSearch) (old : StepTable) (before : Steps) (spot : Spot)
    (set : StateSet) (after : Steps) (k : ℕ) : Type 0 where
  pub within : k ≤ length asked.line.now
  pub goes : (first : Stage) (cache : Cache) → cache.entries ≡ [] →
      IsAt asked first old before spot.place spot.row
      → Goes (expression_in asked) asked.mode asked.line.now k first
      (record { set = set; cache = cache; steps = after })

abbrev pub Arrives : LineSearch → StepTable → Steps → Spot → StepTable → Steps → Went → Type 0
Arrives asked old before spot new after (w.To next) = ArrivesAt asked old before spot new after next
Arrives asked old before spot new after (w.Reported answer) =
    ComesToSay asked old before spot new after answer
Arrives asked old before spot new after (w.Alone k) =
    ComesAlone asked old before spot new.scratch after k

-- a search has its answer, or it left the rest of the line
abbrev pub Ends : LineSearch → StepTable → Steps → Spot → StepTable → Steps → Outcome → Type 0
Ends asked old before spot new after (o.Reported answer) =
    ComesToSay asked old before spot new after answer
Ends asked old before spot new after (o.GaveUp k) =
    ComesAlone asked old before spot new.scratch after k

-- A walk by held pairs is at a place of a line of the block. No line before that one is matched.
pub record GoesOverLines (asked : LineSearch) (t : StepTable) (lines : Lines) : Type 0 where
  pub passed : PassesUnmatched (expression_in asked) false asked.line.now lines.start
  pub low : lines.start ≤ lines.place
  pub within : lines.place < length asked.line.now
  pub free : HasNoNewline (slice_range asked.line.now lines.start lines.place)
  pub row : IsRow t lines.row
  pub comes : (rest : Text) (start : StateSet) (steps : Steps) → slice_get t.sets.keys 1 ≡ Some start →
      IsAtOf asked (slice_range asked.line.now lines.start lines.place ++ rest)
      (record { set = start; cache = cache_of t; steps = steps }) t
      (walked (lines.place - lines.start) steps) (lines.place - lines.start) lines.row
