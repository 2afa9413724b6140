-- What is found in lines, with a mark for each line that says whether some pattern matches it.
use Rattle.std.specs.Prelude.{◌≡◌, ℕ, get_or, Bool, ◌+◌, List, zero, suc, [], ◌≤◌, false}
use Rattle.std.specs.Prelude.{if◌then◌else◌, ◌<◌, length}
use Rattle.re_trees.specs.declared.span.Span.{Span}
use Rattle.line_finds.specs.{declared.found.Found.TheInside.Inside, Working.Finds.FoundIn}
use Rattle.line_finds.specs.Working.Finds.{is_paired, paired_before, AreBelow}

-- the view of what is found
abbrev pub found_in : Inside → FoundIn
found_in found = record { size = length found.marks.items; pairs = found.matches; parts = found.parts }

-- each mark says whether its line is paired with some pattern
abbrev pub AreMarks : List (ℕ × ℕ) → List Bool → Type 0
AreMarks pairs marks = (k : ℕ) → k < length marks → get_or marks k false ≡ is_paired k pairs

-- how many of the first `k` marks are set
abbrev pub set_before : ℕ → List Bool → ℕ
set_before zero marks = 0
set_before (suc k) marks = (if get_or marks k false then 1 else 0) + set_before k marks

-- the marks, their number and the parts fit the pairs
pub record IsFound (found : Inside) : Type 0 where
  pub below : AreBelow (length found.marks.items) found.matches
  pub marked : AreMarks found.matches found.marks.items
  pub hits_are : found.hits ≡ paired_before (length found.marks.items) found.matches
  pub few : length found.parts ≤ length found.marks.items

-- after the lists of `at` lines there are `count` more: those of other lines, from line `from` on
pub record AreAdded (at from count : ℕ) (old other new : List (List Span)) : Type 0 where
  pub old_stay : (k : ℕ) → k < at → get_or new k [] ≡ get_or old k []
  pub new_are : (k : ℕ) → k < count → get_or new (at + k) [] ≡ get_or other (from + k) []
  pub few : length new ≤ at + count
