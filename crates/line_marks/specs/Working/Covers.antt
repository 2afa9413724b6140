-- What is left untouched where lines are lost, and where lines are replaced by others.
use Rattle.std.specs.Prelude.{◌≡◌, ℕ, ◌+◌, ◌-◌, ◌<◌, ◌≤◌, ◌⊎◌, List, length}
use Rattle.line_marks.specs.Stretches.{Fits, Keeps, IsBefore, IsAfter, Moves, most_stretches}
use Rattle.line_marks.specs.declared.stretch.Stretch.{Stretch}

-- between stretches lines may be lost, but none before all of them or after all of them
pub record Loses (old new : List Stretch) : Type 0 where
  pub fits : (known lines : ℕ) → Fits known lines old → Fits known lines new
  pub only : (line now : ℕ) → Keeps new line now → Keeps old line now
  pub before : (place : ℕ) → IsBefore old place → IsBefore new place
  pub after : (place : ℕ) → IsAfter old place → IsAfter new place

-- of the untouched lines those are lost that are from line `start` up to line `end`
pub record Covers (start end : ℕ) (old new : List Stretch) : Type 0 where
  pub fits : (known lines : ℕ) → end ≤ lines → Fits known lines old → Fits known lines new
  pub only : (line now : ℕ) → Keeps new line now → Keeps old line now
  pub all : (line now : ℕ) → (now < start) ⊎ (end ≤ now) → Keeps old line now → Keeps new line now
  pub before : (place : ℕ) → place < start → IsBefore old place → IsBefore new place
  pub after : (place : ℕ) → end ≤ place → IsAfter old place → IsAfter new place

-- `count` lines from line `start` on are replaced by `added` lines: just what was untouched before
-- and stayed is left
pub record Replaces (start count added : ℕ) (old new : List Stretch) : Type 0 where
  pub fits : (known lines : ℕ) → start + count ≤ lines → Fits known lines old →
      Fits known (lines - count + added) new
  pub only : (line now : ℕ) → Keeps new line now →
      (then : ℕ) × Keeps old line then × Moves start count added then now
  pub all : (line then now : ℕ) → Keeps old line then → Moves start count added then now →
      Keeps new line now
  pub before : (place : ℕ) → place < start → IsBefore old place → IsBefore new place
  pub after : (past : ℕ) → IsAfter old (start + count + past) → IsAfter new (start + added + past)

-- the same, where lines between stretches are lost before if there are as many as there can be
pub record SplicesList (start count added : ℕ) (old new : List Stretch) : Type 0 where
  pub mid : List Stretch
  pub same : length old < most_stretches → mid ≡ old
  pub loses : Loses old mid
  pub replaces : Replaces start count added mid new
  pub one_more : length new ≤ length old + 1
