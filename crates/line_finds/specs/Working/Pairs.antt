-- Pairs of a line's and a pattern's number as they are kept, and what becomes of them.
use Rattle.std.specs.Prelude.{ℕ, ◌+◌, ◌-◌, Bool, true, false, not, ◌||◌, List, [], ◌∷◌, map, get_or}
use Rattle.std.specs.Prelude.{slice_set, nat_lt, nat_le, if◌then◌else◌}
use Rattle.line_finds.specs.{declared.matches.Match.Match, Working.Finds.{is_other, lowered}}

abbrev pub pair_of : Match → ℕ × ℕ
pair_of pair = (pair.line, pair.number)

abbrev pub pairs_of : List Match → List (ℕ × ℕ)
pairs_of pairs = map pair_of pairs

-- ---- patterns go

-- a pair after the numbers from `first` on became smaller
abbrev pub lowered_pair : ℕ → ℕ → Match → Match
lowered_pair first by pair = record { line = pair.line; number = lowered first by pair.number }

-- ---- lines are removed

-- whether the line is not among those from `from` up to `to`
abbrev pub is_outside : ℕ → ℕ → Match → Bool
is_outside from to pair = nat_lt pair.line from || nat_le to pair.line

-- a pair after the lines from `from` up to `to` are removed
abbrev pub moved_pair : ℕ → ℕ → Match → Match
moved_pair from to pair =
    record {
      line = if nat_le to pair.line then pair.line - (to - from) else pair.line;
      number = pair.number;
    }

-- ---- pairs of another list are added

-- the pairs of the lines from `from` up to `to`, where line `from` becomes line `at`
abbrev pub moved_to : ℕ → ℕ → ℕ → List (ℕ × ℕ) → List (ℕ × ℕ)
moved_to at from to [] = []
moved_to at from to (pair ∷ pairs) =
    if nat_lt pair.0 from || nat_le to pair.0 then moved_to at from to pairs
    else (at + (pair.0 - from), pair.1) ∷ moved_to at from to pairs

-- ---- marks

-- the marks after those of the pairs' lines are set
abbrev pub marked : List Match → List Bool → List Bool
marked [] marks = marks
marked (pair ∷ pairs) marks = marked pairs (slice_set marks pair.line true)

-- the marks after those of the lines that are paired with one of these patterns are set
abbrev pub marked_of : ℕ → ℕ → List Match → List Bool → List Bool
marked_of first count [] marks = marks
marked_of first count (pair ∷ pairs) marks =
    marked_of first count pairs
    (slice_set marks pair.line
    (get_or marks pair.line false || not (is_other first count pair.number)))
