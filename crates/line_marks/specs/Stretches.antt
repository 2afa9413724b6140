-- Marks: which lines of a file edits left untouched since its changes were last reported, and the
-- stretches of lines that edits replaced.
use Rattle.std.specs.Prelude.{◌≡◌, ℕ, ◌+◌, ◌<◌, ◌≤◌, ◌⊎◌, ⊤, List, [], ◌∷◌, length, min}
use Rattle.line_marks.specs.declared.stretch.Stretch.{Stretch}

-- the mark of a file: how many lines it had when its changes were last reported, how many it has
-- now, and its stretches in order
pub record Marked : Type 0 where
  pub known : ℕ
  pub lines : ℕ
  pub stretches : List Stretch

-- the stretches are of a file that had `known` lines and has `lines` lines: after the last stretch as
-- many lines are left of both
abbrev pub Fits : ℕ → ℕ → List Stretch → Type 0
Fits known lines [] = known ≡ lines
Fits known lines (stretch ∷ more) =
    (old : ℕ) × (new : ℕ) × (known ≡ stretch.kept + stretch.removed + old) ×
    (lines ≡ stretch.kept + stretch.added + new) × Fits old new more

-- line `old` of the reported lines is untouched, and is line `new` now
abbrev pub Keeps : List Stretch → ℕ → ℕ → Type 0
Keeps [] old new = new ≡ old
Keeps (stretch ∷ more) old new =
    ((old < stretch.kept) × (new ≡ old))
    ⊎ ((past : ℕ) × (later : ℕ) × (old ≡ stretch.kept + stretch.removed + past) ×
    (new ≡ stretch.kept + stretch.added + later) × Keeps more past later)

-- line `place` comes before all stretches; it comes after all of them
abbrev pub IsBefore : List Stretch → ℕ → Type 0
IsBefore [] place = ⊤
IsBefore (stretch ∷ more) place = place < stretch.kept

abbrev pub IsAfter : List Stretch → ℕ → Type 0
IsAfter [] place = ⊤
IsAfter (stretch ∷ more) place =
    (later : ℕ) × (place ≡ stretch.kept + stretch.added + later) × IsAfter more later

-- a file whose changes were all reported; a file that was not reported yet
abbrev pub whole_mark : ℕ → Marked
whole_mark lines = record { known = lines; lines = lines; stretches = [] }

abbrev pub new_mark : ℕ → Marked
new_mark lines =
    record {
      known = 0;
      lines = lines;
      stretches = record { kept = 0; removed = 0; added = lines } ∷ [];
    }

-- no line is untouched
abbrev pub lost : Marked → Marked
lost mark =
    record mark {
      stretches = record { kept = 0; removed = mark.known; added = mark.lines } ∷ [];
    }

abbrev pub most_stretches : ℕ
most_stretches = 64

-- where `count` lines from line `start` on are replaced by `added` lines, line `old` stays, and
-- becomes line `new`
abbrev pub Moves : ℕ → ℕ → ℕ → ℕ → ℕ → Type 0
Moves start count added old new =
    ((old < start) × (new ≡ old))
    ⊎ ((past : ℕ) × (old ≡ start + count + past) × (new ≡ start + added + past))

-- what is left untouched where `count` lines from line `start` on were replaced by `added` lines:
-- just what was before and stayed. But of a mark with the most stretches, the lines between two of
-- them may be lost; those before all stretches and after all of them never are
pub record Splices (start count added : ℕ) (old new : Marked) : Type 0 where
  pub fits : Fits new.known new.lines new.stretches
  pub known : new.known ≡ old.known
  pub lines : new.lines + count ≡ old.lines + added
  pub one_more : length new.stretches ≤ length old.stretches + min 1 (count + added)
  pub only : (line now : ℕ) → Keeps new.stretches line now →
      (then : ℕ) × Keeps old.stretches line then × Moves start count added then now
  pub all : length old.stretches < most_stretches → (line then now : ℕ) →
      Keeps old.stretches line then → Moves start count added then now →
      Keeps new.stretches line now
  pub before : (place : ℕ) → place < start → IsBefore old.stretches place →
      IsBefore new.stretches place
  pub after : (past : ℕ) → IsAfter old.stretches (start + count + past) →
      IsAfter new.stretches (start + added + past)
