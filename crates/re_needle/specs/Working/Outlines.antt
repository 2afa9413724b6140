-- Outlines of expressions: sets of bytes one after another, with stretches between them that may be
-- anything, some of them optional.
use Rattle.std.specs.Prelude.{◌≡◌, ℕ, ◌+◌, ◌<◌, ◌≤◌, IsTrue, List, [], ◌∷◌, ◌++◌, length, map}
use Rattle.std.specs.Prelude.{min, replicate, slice_get, Option, None, Some}
use Rattle.re_trees.specs.{Holds.Holds, Bytes.{Bytes, Text}, Working.Trees.members}
use Rattle.re_trees.specs.Expression.{Expression, one_of}
use Rattle.re_needle.specs.declared.outline_item.OutlineItem.{OutlineItem}
use Rattle.re_runs.specs.Working.Runs.{set_at}
use Rattle.re_needle.specs.declared.outline_item.OutlineItem.TheVariants as m

-- a mark of an outline: a set, or any stretch
abbrev pub shown : OutlineItem → Option Bytes
shown (m.Set set) = Some (members set)
shown m.Optional = None
shown m.Gap = None

-- a mark fits the line from place i to place j
abbrev pub MarkFits : Text → Option Bytes → ℕ → ℕ → Type 0
MarkFits line (Some set) i j = Holds line (one_of set) i j
MarkFits line None i j = i ≤ j

-- the marks fit the stretch from i to j, one after another
abbrev pub Fits : Text → List (Option Bytes) → ℕ → ℕ → Type 0
Fits line [] i j = i ≡ j
Fits line (mark ∷ marks) i j = (k : ℕ) × MarkFits line mark i k × Fits line marks k j

abbrev pub IsOptional : OutlineItem → Type 0
IsOptional mark = mark ≡ m.Optional

-- a stretch is enough for a mark: a byte of the set, or nothing if the mark is optional
abbrev pub MarkSuffices : Text → OutlineItem → ℕ → ℕ → Type 0
MarkSuffices line (m.Set set) i j = Holds line (one_of (members set)) i j
MarkSuffices line m.Optional i j = i ≡ j
MarkSuffices line m.Gap i j = ⊥

-- the stretch from i to j is enough for the marks, one after another
abbrev pub Suffices : Text → List OutlineItem → ℕ → ℕ → Type 0
Suffices line [] i j = i ≡ j
Suffices line (mark ∷ marks) i j = (k : ℕ) × MarkSuffices line mark i k × Suffices line marks k j

-- The marks fit each stretch on which the expression holds. It holds on each that is enough for
-- them.
pub record IsOutline (marks : List OutlineItem) (e : Expression) : Type 0 where
  pub fits : (line : Text) (i j : ℕ) → Holds line e i j → Fits line (map shown marks) i j
  pub holds : (line : Text) (i j : ℕ) → Suffices line marks i j → Holds line e i j

-- the marks are the old ones and then those that are an outline of the expression
abbrev pub AddsOutline : List OutlineItem → Expression → List OutlineItem → Type 0
AddsOutline old e new = (more : List OutlineItem) × (new ≡ old ++ more) × IsOutline more e

-- the marks are the old ones and then those of these sets
abbrev pub AddsSets : List OutlineItem → List Bytes → List OutlineItem → Type 0
AddsSets old sets new = (more : List OutlineItem) × (new ≡ old ++ more) × (map shown more ≡ map Some sets)

-- the marks are the old ones and then n for this set
abbrev pub AddsTurns : List OutlineItem → Bytes → ℕ → List OutlineItem → Type 0
AddsTurns old set n new = AddsSets old (replicate n set) new

-- the stretch of the line from i to j begins with a byte of each set in turn
pub record Leads (sets : List Bytes) (line : Text) (i j : ℕ) : Type 0 where
  pub within : i + length sets ≤ j
  pub takes : (k : ℕ) → k < length sets →
      (b : ℕ) × (slice_get line (i + k) ≡ Some b) × IsTrue (set_at sets k b)

abbrev pub BeginsWith : List Bytes → Expression → Type 0
BeginsWith sets e = (line : Text) (i j : ℕ) → Holds line e i j → Leads sets line i j

-- each set of the third list has all bytes of the sets at its place in the first two
pub record AreJoined (one other both : List Bytes) : Type 0 where
  pub long : length both ≡ min (length one) (length other)
  pub first : (k x : ℕ) → k < length both → IsTrue (set_at one k x) → IsTrue (set_at both k x)
  pub second : (k x : ℕ) → k < length both → IsTrue (set_at other k x) → IsTrue (set_at both k x)
