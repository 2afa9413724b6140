-- The positions of an expression: the places in it that take a byte, numbered from the left once
-- each interval is written out (Glushkov's position automaton). Where an anchor can change an
-- answer, there is one for each kind of place.
use Rattle.std.specs.Prelude.{◌≡◌, ℕ, zero, suc, ◌+◌, ◌-◌, ◌<◌, ⊤, Bool, true, false, IsTrue}
use Rattle.std.specs.Prelude.{nat_eq, nat_le, ◌⊎◌, length, slice_index, Option, Some, None}
use Rattle.re_trees.specs.Expression.{Expression, empty, one_of, none_of, begin, end, cat_none}
use Rattle.re_trees.specs.{Expression.{cat_more, alt_none, alt_more, repeat}, Bytes.Text}
use Rattle.re_trees.specs.Holds.{positions}

-- The questions about a part of an expression. The first Bool says that the place is the line's
-- first, the second that it is its last.
pub record Part : Type 1 where
  -- holds on the empty stretch
  pub empty : Bool → Bool → Type 0
  -- a longer stretch can begin with this position
  pub first : Bool → ℕ → Type 0
  -- a longer stretch can end with this position
  pub last : Bool → ℕ → Type 0
  -- the second position can come directly after the first
  pub follow : ℕ → ℕ → Type 0
  -- the position takes this byte
  pub takes : ℕ → ℕ → Type 0

abbrev pub is_begin : ℕ → Bool
is_begin i = nat_eq i 0

abbrev pub is_end : Text → ℕ → Bool
is_end line i = nat_eq i (length line)

-- the byte at place i of the line is one that P names
abbrev pub ByteAt : (ℕ → Type 0) → Text → ℕ → Type 0
ByteAt P line i = (i < length line) × P (slice_index line i)

-- A stretch from i that has read the bytes before j can have come to position q, which took the
-- last of them.
abbrev pub Reaches : Part → Text → ℕ → ℕ → ℕ → Type 0
Reaches part line i zero q = ⊥
Reaches part line i (suc j) q =
    ByteAt (part.takes q) line j
    × ((i ≡ j) × part.first (is_begin j) q ⊎ ((p : ℕ) × Reaches part line i j p × part.follow p q))

abbrev pub PartHolds : Part → Text → ℕ → ℕ → Type 0
PartHolds part line i j =
    (i ≡ j) × part.empty (is_begin i) (is_end line i)
    ⊎ ((q : ℕ) × Reaches part line i j q × part.last (is_end line j) q)

-- no position, and an empty stretch where `E` says so
abbrev pub without_positions : (Bool → Bool → Type 0) → Part
without_positions E = record {
  empty = E;
  first = λ b q. ⊥;
  last = λ z q. ⊥;
  follow = λ p q. ⊥;
  takes = λ q c. ⊥;
}

-- the empty stretch anywhere; nothing at all
abbrev pub nothing_more : Part
nothing_more = without_positions (λ b z. ⊤)

abbrev pub never : Part
never = without_positions (λ b z. ⊥)

abbrev pub one_position : ℕ → (ℕ → Type 0) → Part
one_position n P = record {
  empty = λ b z. ⊥;
  first = λ b q. q ≡ n;
  last = λ z q. q ≡ n;
  follow = λ p q. ⊥;
  takes = λ q c. (q ≡ n) × P c;
}

-- both parts; the second can begin a stretch where `Skip` lets it, and follow the first where
-- `Cross` does
abbrev pub joined : Part → Part → (Bool → Type 0) → Type 0 → (Bool → Bool → Type 0) →
    (Bool → ℕ → Type 0) → Part
joined f g Skip Cross E L = record {
  empty = E;
  first = λ b q. f.first b q ⊎ Skip b × g.first b q;
  last = L;
  follow = λ p q. f.follow p q ⊎ g.follow p q ⊎ Cross × f.last false p × g.first false q;
  takes = λ q c. f.takes q c ⊎ g.takes q c;
}

-- one part and then the other; between two bytes of a stretch no anchor holds
abbrev pub in_turn : Part → Part → Part
in_turn f g =
    joined f g (λ b. f.empty b false) ⊤
    (λ b z. f.empty b z × g.empty b z)
    (λ z q. g.last z q ⊎ g.empty false z × f.last z q)

abbrev pub either : Part → Part → Part
either f g =
    joined f g (λ b. ⊤) ⊥
    (λ b z. f.empty b z ⊎ g.empty b z)
    (λ z q. f.last z q ⊎ g.last z q)

-- the part again and again, at least once
abbrev pub again : Part → Part
again f = record {
  empty = f.empty;
  first = f.first;
  last = f.last;
  follow = λ p q. f.follow p q ⊎ f.last false p × f.first false q;
  takes = f.takes;
}

-- the part or the empty stretch
abbrev pub optional : Part → Part
optional f = record {
  empty = λ b z. ⊤;
  first = f.first;
  last = f.last;
  follow = f.follow;
  takes = f.takes;
}

-- `turns` copies in turn, each with numbers of its own, and then what follows them
abbrev pub copies_before : (ℕ → Part) → ℕ → ℕ → (ℕ → Part) → ℕ → Part
copies_before part size zero rest from = rest from
copies_before part size (suc turns) rest from =
    in_turn (part from) (copies_before part size turns rest (from + size))

-- no copy, or the first and then up to the remaining number
abbrev pub up_to : (ℕ → Part) → ℕ → ℕ → ℕ → Part
up_to part size zero from = nothing_more
up_to part size (suc turns) from =
    optional (in_turn (part from) (up_to part size turns (from + size)))

-- the part, or one that never holds
abbrev pub only_if : Bool → Part → Part
only_if true part = part
only_if false part = never

-- from `least` to `most` turns; the part never holds where `most` is the smaller
abbrev pub repeated : (ℕ → Part) → ℕ → ℕ → Option ℕ → ℕ → Part
repeated part size zero None from = optional (again (part from))
repeated part size (suc least) None from = copies_before part size least (λ m. again (part m)) from
repeated part size least (Some most) from =
    only_if (nat_le least most)
    (copies_before part size least (up_to part size (most - least)) from)

-- the expression as a part, its positions numbered from n on
abbrev pub part_of : Expression → ℕ → Part
part_of empty n = nothing_more
part_of (one_of s) n = one_position n (λ c. IsTrue (s c))
part_of (none_of s) n = one_position n (λ c. ¬ IsTrue (s c))
part_of begin n = without_positions (λ b z. IsTrue b)
part_of end n = without_positions (λ b z. IsTrue z)
part_of cat_none n = nothing_more
part_of (cat_more e rest) n = in_turn (part_of e n) (part_of rest (n + positions e))
part_of alt_none n = never
part_of (alt_more e rest) n = either (part_of e n) (part_of rest (n + positions e))
part_of (repeat e least most) n = repeated (part_of e) (positions e) least most n
