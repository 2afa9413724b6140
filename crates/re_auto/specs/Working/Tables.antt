-- What the tables of an automaton say of the positions of an expression.
use Rattle.std.specs.Prelude.{◌≡◌, ℕ, ◌+◌, ◌*◌, ◌/◌, ◌<◌, ◌≤◌, Bool, true, false, IsTrue, ◌↔◌, List}
use Rattle.std.specs.Prelude.{length, slice_index, slice_index_or}
use Rattle.re_trees.specs.{Limits.most_positions, Expression.Expression, Holds.positions}
use Rattle.re_auto.specs.declared.build.BuildFault.{BuildFault, TheVariants.{TooLarge, Memory}}
use Rattle.re_auto.specs.{declared.tables.{Tables.Tables, Empty.Empty}, Working.Ranges.CoverRows}
use Rattle.re_auto.specs.Working.{Bits.{Has, row_of, Are, RowsAre}, Positions.{Part, part_of}}

-- the number of words of 64 bits that hold `count` positions
abbrev pub words_for : ℕ → ℕ
words_for count = (count + 63) / 64

-- the greatest number of words of a set of positions
abbrev pub most_words : ℕ
most_words = words_for most_positions

-- a set of the expression's positions is one word
abbrev pub HasOneWord : Expression → Type 0
HasOneWord e = (1 ≤ positions e) × (positions e ≤ 64)

-- a stretch inside a line can begin with this byte
abbrev pub CanBegin : Part → ℕ → Type 0
CanBegin part c = (q : ℕ) × part.first false q × part.takes q c

-- there is a mark for each of the 256 bytes, which says whether S holds of it
abbrev pub Marks : List Bool → (ℕ → Type 0) → Type 0
Marks marks S =
    (length marks ≡ 256) × ((c : ℕ) → c < 256 → IsTrue (slice_index_or marks c false) ↔ S c)

-- the four answers on the empty stretch
pub record SaysEmpty (part : Part) (empty : Empty) : Type 0 where
  pub on_empty_line : IsTrue empty.on_empty_line ↔ part.empty true true
  pub at_begin : IsTrue empty.at_begin ↔ part.empty true false
  pub at_end : IsTrue empty.at_end ↔ part.empty false true
  pub inside : IsTrue empty.inside ↔ part.empty false false

-- each byte's class has a row, the positions that take the byte
pub record SaysTakes (part : Part) (tables : Tables) : Type 0 where
  pub classes : length tables.class_of.items ≡ 256
  pub within : (c : ℕ) → c < 256 →
      slice_index tables.class_of.items c * tables.width + tables.width ≤ length tables.takes.items
  pub takes : (c q : ℕ) → c < 256 →
      Has (row_of tables.takes.items tables.width (slice_index tables.class_of.items c)) q ↔
      part.takes q c

-- the tables of an expression, whose positions are numbered from 0 on
pub record AreTablesOf (e : Expression) (tables : Tables) : Type 0 where
  pub size : tables.size ≡ positions e
  pub width : tables.width ≡ words_for (positions e)
  pub few : positions e ≤ most_positions
  pub taken : SaysTakes (part_of e 0) tables
  pub follow : RowsAre tables.follow.items (part_of e 0).follow (positions e) tables.width
  pub ranges : CoverRows tables.ranges.items tables.follow.items (positions e) tables.width
  pub first_at_begin : Are tables.first_at_begin.items ((part_of e 0).first true) tables.width
  pub first_inside : Are tables.first_inside.items ((part_of e 0).first false) tables.width
  pub last_at_end : Are tables.last_at_end.items ((part_of e 0).last true) tables.width
  pub last_inside : Are tables.last_inside.items ((part_of e 0).last false) tables.width
  pub empty : SaysEmpty (part_of e 0) tables.empty
  pub beginnings : Marks tables.beginnings (CanBegin (part_of e 0))

-- what a refusal says of the number of positions: too large exactly where it is above the limit
abbrev pub IsRefused : ℕ → BuildFault → Type 0
IsRefused count TooLarge = most_positions < count
IsRefused count Memory = count ≤ most_positions
