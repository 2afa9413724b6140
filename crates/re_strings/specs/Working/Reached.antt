-- How far a search of a line went, and what it counted.
use Rattle.std.specs.Prelude.{◌≡◌, ℕ, ◌+◌, ◌-◌, ◌<◌, ◌≤◌, ◌⊎◌, List, length, take, drop, Option}
use Rattle.std.specs.Prelude.{Some, None, MatchOption}
use Rattle.{re_trees.specs.{Bytes.Text, declared.span.Span.Span}, re_meter.specs.Meters.many_passed}
use Rattle.re_meter.specs.Meters.{Steps}
use Rattle.re_strings.specs.declared.aho_corasick.AhoCorasick.{AhoCorasick}
use Rattle.re_strings.specs.Working.{FixedSets.{IsTableOf, Occurs, Labels, IsFront}, Keys.keys}

-- the search from place `from` went up to a place, where the line ends or the search was over, and
-- counted the bytes up to there
pub record Reaches (IsOver IsNear : ℕ → Type 0) (line : Text) (from : ℕ)
    (old new : Steps) : Type 0 where
  pub place : ℕ
  pub low : from ≤ place
  pub within : place ≤ length line
  pub passed : new ≡ many_passed (place - from) old
  pub over : (place ≡ length line) ⊎ IsOver place
  pub near : IsNear place

-- from the beginning of the string that was found on, the search read at most one byte more than
-- some node has
abbrev pub IsNear : AhoCorasick → Option Span → ℕ → Type 0
IsNear t found place =
    (all : Labels) → IsTableOf all t → (s : Span) → found ≡ Some s →
    (n : ℕ) × (n < length t.trie.bytes.items) × (place ≤ s.start + length (all.label n) + 1)

-- no string that begins at `from` or later, and no later than the one that was found, can go on at
-- this place
abbrev pub IsSettled : AhoCorasick → Text → ℕ → Option Span → ℕ → Type 0
IsSettled t line from found place =
    (s : Span) × (found ≡ Some s) ×
    ((all : Labels) → IsTableOf all t → (i : ℕ) → from ≤ i → i ≤ s.start →
    ¬ IsFront all.strings (drop i (take place (keys t.fold line))))

-- the place at which a string, not the empty one, ends first
abbrev pub EndsFirst : List Text → Text → Option ℕ → Type 0
EndsFirst strings line end =
    MatchOption end ((i j : ℕ) → ¬ Occurs strings 0 line i j)
    (λ k. ((i : ℕ) × Occurs strings 0 line i k)
    × ((i j : ℕ) → j < k → ¬ Occurs strings 0 line i j))

-- how many bytes a search for it goes over
abbrev pub end_cost : Text → Option ℕ → ℕ
end_cost line None = length line
end_cost line (Some k) = k
