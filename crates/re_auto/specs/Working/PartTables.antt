-- How the tables of an expression grow, one part of it after another.
use Rattle.std.specs.Prelude.{length, ◌⊎◌, IfSome, None, ◌≡◌, IsTrue, false, Bool, Option, ◌*◌, ◌+◌}
use Rattle.std.specs.{Prelude.{◌↔◌, Vec, ◌≤◌, true, ℕ, ◌<◌, Some}, Global.Global}
use Rattle.re_trees.specs.{declared.bytes.ByteSet.ByteSet, Working.Trees.members, Holds.positions}
use Rattle.re_trees.specs.Expression.{repeat, Expression}
use Rattle.re_auto.specs.declared.{build.{ends.Ends.Ends, rows.Rows.Rows}, tables.Empty.Empty}
use Rattle.re_auto.specs.Working.{Bits.{Has, row_of, Are}, Positions.{again, one_position, up_to}}
use Rattle.re_auto.specs.Working.Positions.{without_positions, Part, part_of, copies_before}
use Rattle.re_auto.specs.Working.Tables.{SaysEmpty, most_words, words_for}

-- the words are the set, and their number is `width`
abbrev pub IsSet : (ℕ → Type 0) → ℕ → Vec ℕ Global → Type 0
IsSet S width set = Are set.items S width

-- the ends are those of the part, as sets of `width` words
pub record Shows (part : Part) (width : ℕ) (ends : Ends) : Type 0 where
  pub first_at_begin : Are ends.first_at_begin.items (part.first true) width
  pub first_inside : Are ends.first_inside.items (part.first false) width
  pub last_at_end : Are ends.last_at_end.items (part.last true) width
  pub last_inside : Are ends.last_inside.items (part.last false) width
  pub empty : SaysEmpty part ends.empty

-- the rows have what they had, and what the part says of its positions
pub record Adds (part : Part) (old new : Rows) : Type 0 where
  pub width : new.width ≡ old.width
  pub follow_length : length new.follow.items ≡ length old.follow.items
  pub takes_length : length new.takes.items ≡ length old.takes.items
  pub follow : (p q : ℕ) → p * old.width + old.width ≤ length old.follow.items →
      Has (row_of new.follow.items old.width p) q ↔
      (Has (row_of old.follow.items old.width p) q ⊎ part.follow p q)
  pub takes : (c q : ℕ) → c < 256 →
      Has (row_of new.takes.items old.width c) q ↔
      (Has (row_of old.takes.items old.width c) q ⊎ part.takes q c)

-- there are rows for each number before `beyond`, and rows for each byte
pub record HasRoom (beyond : ℕ) (rows : Rows) : Type 0 where
  pub few : rows.width ≤ most_words
  pub numbers : beyond ≤ rows.width * 64
  pub follow : beyond * rows.width ≤ length rows.follow.items
  pub takes : length rows.takes.items ≡ 256 * rows.width

-- a part of `size` positions, the last of them before `beyond`, was added to the rows, and these
-- are its ends
pub record IsAdded (part : ℕ → Part) (size beyond : ℕ) (old new : Rows) (ends : Ends) : Type 0 where
  pub begins : ends.begins + size ≡ beyond
  pub shows : Shows (part ends.begins) old.width ends
  pub adds : Adds (part ends.begins) old new

-- an answer on the empty stretch, by the kind of its place
abbrev pub empty_at : Empty → Bool → Bool → Bool
empty_at empty true true = empty.on_empty_line
empty_at empty true false = empty.at_begin
empty_at empty false true = empty.at_end
empty_at empty false false = empty.inside

-- the positions that a stretch can begin with; those that it can end with
abbrev pub first_at : Ends → Bool → ℕ → Type 0
first_at ends true q = Has ends.first_at_begin.items q
first_at ends false q = Has ends.first_inside.items q

abbrev pub last_at : Ends → Bool → ℕ → Type 0
last_at ends true q = Has ends.last_at_end.items q
last_at ends false q = Has ends.last_inside.items q

-- the ends as a part that says nothing of what is between them
abbrev pub shown : Ends → Part
shown ends = record {
  empty = λ b z. IsTrue (empty_at ends.empty b z);
  first = first_at ends;
  last = last_at ends;
  follow = λ p q. ⊥;
  takes = λ q c. ⊥;
}

-- each position of the one set is followed by each of the other, and by nothing else
abbrev pub crossing : (ℕ → Type 0) → (ℕ → Type 0) → Part
crossing P Q = record {
  empty = λ b z. ⊥;
  first = λ b q. ⊥;
  last = λ z q. ⊥;
  follow = λ p q. P p × Q q;
  takes = λ q c. ⊥;
}

-- each set has `width` words
pub record HasWidth (width : ℕ) (ends : Ends) : Type 0 where
  pub first_at_begin : length ends.first_at_begin.items ≡ width
  pub first_inside : length ends.first_inside.items ≡ width
  pub last_at_end : length ends.last_at_end.items ≡ width
  pub last_inside : length ends.last_inside.items ≡ width

-- a part without positions, by where it is empty, and its ends from a number on
abbrev pub blank_part : Empty → Part
blank_part empty = without_positions (λ b z. IsTrue (empty_at empty b z))

pub record IsBlank (width number : ℕ) (empty : Empty) (ends : Ends) : Type 0 where
  pub begins : ends.begins ≡ number
  pub shows : Shows (blank_part empty) width ends

pub record IsOne (width position : ℕ) (ends : Ends) : Type 0 where
  pub begins : ends.begins ≡ position
  pub shows : Shows (one_position position (λ c. ⊥)) width ends

-- the bytes that are in the set; those that are not
abbrev pub Wanted : ByteSet → Bool → ℕ → Type 0
Wanted set wanted c = members set c ≡ wanted

abbrev pub wanted_position : ByteSet → Bool → ℕ → Part
wanted_position set wanted n = one_position n (Wanted set wanted)

abbrev pub IsAddedOf : Expression → ℕ → Rows → Rows → Ends → Type 0
IsAddedOf e beyond old new ends = IsAdded (part_of e) (positions e) beyond old new ends

-- there is a row for each member of the set
abbrev pub HasRows : (ℕ → Type 0) → Rows → Type 0
HasRows S rows = (p : ℕ) → S p → p * rows.width + rows.width ≤ length rows.follow.items

-- what follows the copies that a repeated part must have: up to the given number more, or the part
-- again and again
abbrev pub tail_of : (ℕ → Part) → ℕ → Option ℕ → ℕ → Part
tail_of part size None from = again (part from)
tail_of part size (Some turns) from = up_to part size turns from

-- the number of copies in that tail
abbrev pub tail_copies : Option ℕ → ℕ
tail_copies None = 1
tail_copies (Some turns) = turns

-- `turns` copies of the expression and such a tail were added
abbrev pub AreTurns : Expression → ℕ → Option ℕ → ℕ → Rows → Rows → Ends → Type 0
AreTurns e turns tail beyond old new ends =
    IsAdded (copies_before (part_of e) (positions e) turns (tail_of (part_of e) (positions e) tail))
    (turns * positions e + tail_copies tail * positions e) beyond old new ends

-- up to `turns` copies of the expression were added
abbrev pub AreUpTo : Expression → ℕ → ℕ → Rows → Rows → Ends → Type 0
AreUpTo e turns beyond old new ends =
    IsAdded (up_to (part_of e) (positions e) turns) (turns * positions e) beyond old new ends

-- such a tail was added
abbrev pub IsTail : Expression → Option ℕ → ℕ → Rows → Rows → Ends → Type 0
IsTail e tail beyond old new ends =
    IsAdded (tail_of (part_of e) (positions e) tail) (tail_copies tail * positions e) beyond old new
    ends

-- an expression without positions was added, as if repeated at least `least` times, with any upper
-- bound that is not below
abbrev pub IsOnce : Expression → ℕ → ℕ → Rows → Rows → Ends → Type 0
IsOnce e least beyond old new ends =
    (most : Option ℕ) → IfSome most (λ top. least ≤ top) →
    IsAddedOf (repeat e least most) beyond old new ends

-- rows without members, for `count` positions
pub record AreBlankRows (count : ℕ) (rows : Rows) : Type 0 where
  pub width : rows.width ≡ words_for count
  pub follow_length : length rows.follow.items ≡ count * rows.width
  pub takes_length : length rows.takes.items ≡ 256 * rows.width
  pub follow : (q : ℕ) → ¬ Has rows.follow.items q
  pub takes : (q : ℕ) → ¬ Has rows.takes.items q
