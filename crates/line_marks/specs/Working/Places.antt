-- Where a line is among stretches, and stretches that lose lines to the one before them.
use Rattle.std.specs.Prelude.{◌≡◌, ℕ, ◌+◌, ◌-◌, ◌^◌, ◌<◌, ◌≤◌, ⊤, List, [], ◌∷◌}
use Rattle.line_marks.specs.{declared.stretch.Stretch.Stretch, Stretches.Fits}

-- the stretches are of a file that had and has fewer than 2^64 lines, and has `end` or more
pub record AreCounted (end : ℕ) (stretches : List Stretch) : Type 0 where
  pub known : ℕ
  pub lines : ℕ
  pub few_known : known < 2 ^ 64
  pub few : lines < 2 ^ 64
  pub within : end ≤ lines
  pub fit : Fits known lines stretches

-- all stretches end before line `place`, which is line `rest` after the last of them
abbrev pub Passes : List Stretch → ℕ → ℕ → Type 0
Passes [] place rest = place ≡ rest
Passes (stretch ∷ more) place rest =
    (later : ℕ) × (place ≡ stretch.kept + stretch.added + later) × (1 ≤ later) ×
    Passes more later rest

-- the first stretch, if there is one, ends at line `place` or after it
abbrev pub IsReached : ℕ → List Stretch → Type 0
IsReached place [] = ⊤
IsReached place (stretch ∷ more) = place ≤ stretch.kept + stretch.added

-- there are `lead` lines before the first stretch, if there is one
abbrev pub HasLead : ℕ → List Stretch → Type 0
HasLead lead [] = ⊤
HasLead lead (stretch ∷ more) = lead ≤ stretch.kept

-- the stretches after `lead` of the lines before them
abbrev pub led : ℕ → List Stretch → List Stretch
led lead [] = []
led lead (stretch ∷ more) = record stretch { kept = stretch.kept - lead } ∷ more
