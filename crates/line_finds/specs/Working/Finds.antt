-- What is found in the lines of a chunk, and how it is kept.
use Rattle.std.specs.Prelude.{ℕ, zero, suc, ◌+◌, ◌-◌, ◌<◌, ◌==◌, Bool, not, ◌||◌, List, [], ◌∷◌}
use Rattle.std.specs.Prelude.{All, length, map, get_or, nat_eq, nat_le, nat_lt, if◌then◌else◌}
use Rattle.std.specs.List.{filter, list_any}
use Rattle.re_trees.specs.declared.span.Span.{Span}

-- the numbers of the patterns that match a line, and the parts of it that are kept
pub record Finds : Type 0 where
  pub numbers : List ℕ
  pub spans : List Span

-- no pattern matches the line
abbrev pub no_finds : Finds
no_finds = record { numbers = []; spans = [] }

-- ---- pairs of a line's number and a pattern's number

-- the numbers of the patterns that are paired with line `k`, in the order of the pairs
abbrev pub numbers_at : ℕ → List (ℕ × ℕ) → List ℕ
numbers_at k [] = []
numbers_at k (pair ∷ pairs) = if nat_eq pair.0 k then pair.1 ∷ numbers_at k pairs else numbers_at k pairs

-- whether line `k` is paired with some pattern
abbrev pub is_paired : ℕ → List (ℕ × ℕ) → Bool
is_paired k pairs = not (length (numbers_at k pairs) == 0)

-- all pairs are of the first `size` lines
abbrev pub AreBelow : ℕ → List (ℕ × ℕ) → Type 0
AreBelow size pairs = All (λ pair. pair.0 < size) pairs

-- how many of the lines before line `k` are paired with some pattern
abbrev pub paired_before : ℕ → List (ℕ × ℕ) → ℕ
paired_before zero pairs = 0
paired_before (suc k) pairs = (if is_paired k pairs then 1 else 0) + paired_before k pairs

-- ---- patterns go, and the later ones move up

-- whether a number is none of the `count` numbers from `first` on
abbrev pub is_other : ℕ → ℕ → ℕ → Bool
is_other first count n = nat_lt n first || nat_le count (n - first)

-- whether one of the numbers is among them
abbrev pub has_own : ℕ → ℕ → List ℕ → Bool
has_own first count numbers = list_any (λ n. not (is_other first count n)) numbers

-- a number that is not before `first` becomes smaller
abbrev pub lowered : ℕ → ℕ → ℕ → ℕ
lowered first by n = if nat_lt n first then n else n - by

-- the numbers after those of these patterns have gone, and the later ones became smaller
abbrev pub left_numbers : ℕ → ℕ → ℕ → List ℕ → List ℕ
left_numbers first count by numbers = map (lowered first by) (filter (is_other first count) numbers)

-- the numbers after pattern p is removed
abbrev pub without : ℕ → List ℕ → List ℕ
without p numbers = left_numbers p 1 1 numbers

-- ---- what is kept for some lines

-- the number of lines, the pairs of lines and patterns that match them, and the parts of the first
-- lines; others have none
pub record FoundIn : Type 0 where
  pub size : ℕ
  pub pairs : List (ℕ × ℕ)
  pub parts : List (List Span)

-- what is found in line `k`
abbrev pub finds_at : FoundIn → ℕ → Finds
finds_at found k = record { numbers = numbers_at k found.pairs; spans = get_or found.parts k [] }
