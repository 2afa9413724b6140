-- Greatest ends on their way back over a line, by steps that are kept.
use Rattle.std.specs.Prelude.{◌≡◌, ℕ, ◌+◌, ◌<◌, ◌≤◌, ◌↔◌, ◌⊎◌, List, Some, None, length}
use Rattle.std.specs.Prelude.{slice_index}
use Rattle.re_trees.specs.{Bytes.Text, declared.span.Span.Span, Expression.Expression}
use Rattle.re_trees.specs.{Holds.positions, Working.Trees.expression_of}
use Rattle.re_auto.specs.Working.Positions.{is_end, part_of}
use Rattle.re_ends.specs.Working.{GreatestEnds.{FindsIn, MatchesPast}, Groups.{AreGroupsFor, Ends}}
use Rattle.re_ends.specs.Working.{Groups.StandAt, KeptSteps.{AreStepsFor, IsRowIn}}
use Rattle.re_ends.specs.declared.{kept.KeptSteps.KeptSteps, table.EndTable.EndTable}
use Rattle.re_ends.specs.declared.pass.{Spot.Spot, Pass.Pass, Asked.Asked}

-- all that a pass keeps is right for the automaton of this expression
pub record IsPassFor (e : Expression) (t : Pass) : Type 0 where
  pub steps : AreStepsFor e t.steps
  pub groups : AreGroupsFor e t.groups
  pub most : positions e < t.list.most

-- how many places a search goes back at once
abbrev pub piece : ℕ
piece = 128

pub record AreEndsFor (e : Expression) (t : EndTable) : Type 0 where
  pub pass : IsPassFor e t.pass
  pub room : length t.room.items ≡ piece

-- a pass over the line is at this place, with the groups of this row and these ends
pub record IsAtRow (e : Expression) (line : Text) (steps : KeptSteps) (list : Ends)
    (place r : ℕ) : Type 0 where
  pub within : place ≤ length line
  pub groups : List ℕ
  pub row : IsRowIn steps r (is_end line place) groups
  pub stands : StandAt (part_of e 0) line place groups list.ends

abbrev pub IsAt : Asked → Pass → Spot → Type 0
IsAt asked t spot =
    IsPassFor (expression_of asked.automaton.now) t ×
    IsAtRow (expression_of asked.automaton.now) asked.line.now t.steps t.list spot.place spot.row

-- of the places from `start` up to `end`, whose ends are listed, those from this one on were given
-- their greatest ends
abbrev pub AddsFrom : Expression → Text → ℕ → ℕ → ℕ → List ℕ → List ℕ → Type 0
AddsFrom e line start end place old new =
    (length new ≡ length old) ×
    ((i m : ℕ) → start + i < end →
    (m < slice_index new i) ↔
    ((m < slice_index old i) ⊎ ((place ≤ start + i) × MatchesPast e line (start + i) m)))

-- the places from `to` up to `from` were given theirs
abbrev pub Adds : Asked → ℕ → ℕ → ℕ → List ℕ → List ℕ → Type 0
Adds asked start from to now new =
    (end : ℕ) (old : List ℕ) →
    AddsFrom (expression_of asked.automaton.now) asked.line.now start end from old now →
    AddsFrom (expression_of asked.automaton.now) asked.line.now start end to old new

-- the first stretch from the place on, whose end is 0 where there is none
abbrev pub IsFirstFrom : Expression → Text → ℕ → ℕ → Span → Type 0
IsFirstFrom e line place end s =
    ((s.end ≡ 0) × FindsIn e line place end None)
    ⊎ ((0 < s.end) × FindsIn e line place end (Some s))
