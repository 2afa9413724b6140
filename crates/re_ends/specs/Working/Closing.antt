-- What is known while a step back makes groups before a byte, one for each end in turn.
use Rattle.std.specs.Prelude.{◌↔◌, ◌⊎◌, ◌≡◌, List, ◌<◌, ℕ, slice_index, length, Bool, ◌≤◌}
use Rattle.re_trees.specs.{Holds.positions, Expression.Expression}
use Rattle.re_auto.specs.{declared.ranges.WordRange.WordRange, Working.{Bits.Has, Ranges.Covers}}
use Rattle.{re_auto.specs.Working.Positions.part_of, re_ends.specs.declared.groups.Groups.Groups}
use Rattle.re_ends.specs.Working.Groups.{In, AreFull, AreInTurn, group_of, AreGroupsFor, numbers_of}
use Rattle.re_ends.specs.Working.Groups.{IsRow, Grow, HasGroups, CanHave, Names}

-- the expression, the byte and whether it is the line's last, the groups after it and their number
pub record Byte : Type 0 where
  pub e : Expression
  pub code : ℕ
  pub at_end : Bool
  pub after : List ℕ
  pub count : ℕ

abbrev pub Takes : Byte → ℕ → Type 0
Takes b q = (part_of b.e 0).takes q b.code

abbrev pub CanEnd : Byte → ℕ → ℕ → Type 0
CanEnd b = CanHave (part_of b.e 0) b.at_end b.after b.count

-- full pieces in turn, none after group g, and each position once
pub record AreMembers (g : ℕ) (row : List ℕ) : Type 0 where
  pub in_turn : AreInTurn row
  pub last : (j q : ℕ) → In row j q → j ≤ g
  pub full : AreFull row
  pub apart : (i j : ℕ) → i < j → j < length row →
      (q : ℕ) → Names (slice_index row i) q → Names (slice_index row j) q → ⊥

-- Each position that takes the byte and can have an end of the groups below k is a member, with the
-- first that it can have; the others that take it are left.
pub record IsClosed (b : Byte) (k : ℕ) (left kept row : List ℕ) : Type 0 where
  pub ready : (q : ℕ) → Has left q → Takes b q × ((j : ℕ) → In row j q → ⊥)
  pub others : (q : ℕ) → Takes b q → Has left q ⊎ ((j : ℕ) × In row j q)
  pub grow : Grow kept
  pub below : (j : ℕ) → j < length kept → slice_index kept j < k
  pub members : (j q : ℕ) → In row j q → Takes b q × CanEnd b (slice_index kept j) q
  pub all : (i q : ℕ) → i < k → Takes b q → CanEnd b i q →
      (j : ℕ) × (slice_index kept j ≤ i) × In row j q
  pub made : HasGroups row (length kept)
  pub made_of : AreMembers (length kept) row

abbrev pub AreClosed : Byte → ℕ → Groups → Type 0
AreClosed b k groups =
    IsClosed b k groups.left.items (numbers_of groups.runs.items) groups.row.items ×
    (groups.count ≡ length (numbers_of groups.runs.items))

-- Of the pieces after the byte those before i were met: the groups below this one are closed, and the
-- positions that can have its end by them are marked.
pub record AreMet (b : Byte) (i group : ℕ) (range : WordRange) (groups : Groups) : Type 0 where
  pub made : AreGroupsFor b.e groups
  pub row : IsRow (positions b.e) b.after
  pub count : HasGroups b.after b.count
  pub within : i ≤ length b.after
  pub covers : Covers range groups.met.items
  pub over : (j : ℕ) → j < i → group_of (slice_index b.after j) ≤ group
  pub reached : (j : ℕ) → i ≤ j → j < length b.after → group ≤ group_of (slice_index b.after j)
  pub met : (q : ℕ) →
      Has groups.met.items q ↔
      ((j : ℕ) × (j < i) × (group_of (slice_index b.after j) ≡ group) ×
      ((r : ℕ) × Names (slice_index b.after j) r × (part_of b.e 0).follow q r))
  pub closed : AreClosed b group groups

-- no piece was met, and nothing is closed
abbrev pub AreNoneMet : Byte → Groups → Type 0
AreNoneMet b = AreMet b 0 0 (record { first = 0; past = 0 })
