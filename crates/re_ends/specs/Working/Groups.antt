-- Groups of positions at a place of a line: those of a group have the same greatest end, and the groups
-- with greater ends come first. A row has the pieces of all groups, and a list has the groups' ends.
use Rattle.std.specs.Prelude.{◌≡◌, ℕ, zero, suc, ◌/◌, ◌%◌, ◌^◌, ◌<◌, ◌≤◌, ◌↔◌, ◌⊎◌, Bool, List, []}
use Rattle.std.specs.Prelude.{◌∷◌, ◌++◌, flat_map, length, map, slice_index, vec_capacity}
use Rattle.std.specs.{List.range_with_len, Int.bit_at}
use Rattle.re_trees.specs.{Holds.positions, Limits.most_positions, Expression.Expression}
use Rattle.{re_trees.specs.Bytes.Text, re_auto.specs.Working.{Positions.Part, Tables.words_for}}
use Rattle.re_ends.specs.declared.{groups.Groups.Groups, list.Run.Run}
use Rattle.re_ends.specs.Working.{GreatestEnds.LeadsPast, Preceding.ArePrecedingFor}

-- the ends of groups, and how many there is room for
pub record Ends : Type 0 where
  pub ends : List ℕ
  pub most : ℕ

-- the end with this number, counted from 1 on, where 0 is none
abbrev pub end_of : List ℕ → ℕ → ℕ
end_of ends zero = 0
end_of ends (suc k) = slice_index ends k

-- the ends with these numbers stay
abbrev pub Leaves : List ℕ → List ℕ → List ℕ → Type 0
Leaves kept old new = new ≡ map (λ k. slice_index old k) kept

-- the numbers grow
abbrev pub Grow : List ℕ → Type 0
Grow xs = (j k : ℕ) → j < k → k < length xs → slice_index xs j < slice_index xs k

-- they grow and are among those of the list and one more, and there is room
abbrev pub Fits : List ℕ → Ends → Type 0
Fits kept list =
    (length list.ends < list.most) × Grow kept ×
    ((k : ℕ) → k < length kept → slice_index kept k ≤ length list.ends)

abbrev pub numbers : Run → List ℕ
numbers r = range_with_len r.first (suc r.more)

abbrev pub numbers_of : List Run → List ℕ
numbers_of runs = flat_map numbers runs

-- A piece of a row: the number of its group times 2^48, plus the number of a half of a word times 2^32,
-- plus the positions of that half that are in the group.
abbrev pub group_of : ℕ → ℕ
group_of piece = piece / 2 ^ 48

abbrev pub half_of : ℕ → ℕ
half_of piece = piece / 2 ^ 32 % 2 ^ 16

-- the piece has the position
abbrev pub Names : ℕ → ℕ → Type 0
Names piece q = (half_of piece ≡ q / 32) × (bit_at (piece % 2 ^ 32) (q % 32) ≡ 1)

-- the position is in group k
abbrev pub In : List ℕ → ℕ → ℕ → Type 0
In row k q =
    (i : ℕ) × (i < length row) × (group_of (slice_index row i) ≡ k) × Names (slice_index row i) q

-- no piece is empty
abbrev pub AreFull : List ℕ → Type 0
AreFull row = (i : ℕ) → i < length row → (q : ℕ) × Names (slice_index row i) q

-- each of so many groups has a member, and there are no others
abbrev pub HasGroups : List ℕ → ℕ → Type 0
HasGroups row count = (k : ℕ) → (k < count) ↔ ((q : ℕ) × In row k q)

-- the pieces are in the order of their groups
abbrev pub AreInTurn : List ℕ → Type 0
AreInTurn row =
    (i j : ℕ) → i < j → j < length row →
    group_of (slice_index row i) ≤ group_of (slice_index row j)

-- the pieces of some groups of n positions, in turn
pub record IsRow (n : ℕ) (row : List ℕ) : Type 0 where
  pub full : AreFull row
  pub few : length row ≤ n
  pub small : (k q : ℕ) → In row k q → q < n
  pub in_turn : AreInTurn row
  pub count : ℕ
  pub groups : HasGroups row count

-- the ends fall
abbrev pub Fall : List ℕ → Type 0
Fall xs = (j k : ℕ) → j < k → k < length xs → slice_index xs k < slice_index xs j

-- these groups and ends stand for the greatest ends at place p
pub record StandAt (part : Part) (line : Text) (p : ℕ) (row ends : List ℕ) : Type 0 where
  pub right : (q m : ℕ) →
      LeadsPast part line p q m ↔ ((k : ℕ) × In row k q × (m < slice_index ends k))
  pub groups : HasGroups row (length ends)
  pub fall : Fall (ends ++ p ∷ [])

-- before a byte, position q can have the end of group k of those after it, or, for the number after
-- theirs, the place between
abbrev pub CanHave : Part → Bool → List ℕ → ℕ → ℕ → ℕ → Type 0
CanHave part at_end after count k q =
    ((r : ℕ) × part.follow q r × In after k r) ⊎ ((k ≡ count) × part.last at_end q)

-- A step back over byte c on groups alone, which speaks of no place: each position that takes the
-- byte has the first end that it can have. `kept` has the numbers of the ends that stay.
pub record IsStep (part : Part) (at_end : Bool) (after : List ℕ) (c : ℕ)
    (kept row : List ℕ) : Type 0 where
  pub count : ℕ
  pub groups : HasGroups after count
  pub grow : Grow kept
  pub few : (j : ℕ) → j < length kept → slice_index kept j ≤ count
  pub members : (j q : ℕ) → In row j q →
      part.takes q c × CanHave part at_end after count (slice_index kept j) q
  pub all : (k q : ℕ) → part.takes q c → CanHave part at_end after count k q →
      (j : ℕ) × (slice_index kept j ≤ k) × In row j q
  pub made : HasGroups row (length kept)

-- the number of the first group that has a member in S, counted from 1 on, or 0 if there is none
abbrev pub IsFirstIn : (ℕ → Type 0) → List ℕ → ℕ → Type 0
IsFirstIn S row number =
    ((number ≡ 0) × ((k q : ℕ) → In row k q → S q → ⊥))
    ⊎ ((k : ℕ) × (number ≡ suc k) × ((q : ℕ) × In row k q × S q)
    × ((j q : ℕ) → In row j q → S q → k ≤ j))

-- room for this expression
pub record AreGroupsFor (e : Expression) (groups : Groups) : Type 0 where
  pub few : positions e ≤ most_positions
  pub preceding : ArePrecedingFor e groups.preceding
  pub left : length groups.left.items ≡ words_for (positions e)
  pub met : length groups.met.items ≡ words_for (positions e)
  pub row : positions e ≤ vec_capacity groups.row
  pub runs : positions e ≤ vec_capacity groups.runs
