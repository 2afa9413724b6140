-- What the code's sets of bytes and trees mean.
use Rattle.std.specs.Prelude.{◌≡◌, ℕ, ◌-◌, ◌<◌, Bool, ◌&&◌, not, nat_lt, nat_eq, if◌then◌else◌}
use Rattle.std.specs.{Prelude.{Option, MatchOption, IsTrue}, Int.bit_at}
use Rattle.re_trees.specs.Expression.{Expression, empty, one_of, none_of, begin, end, repeat, cat}
use Rattle.re_trees.specs.{Expression.alt, Bytes.{Bytes, nothing}, declared.bytes.ByteSet.ByteSet}
use Rattle.re_trees.specs.declared.tree.Tree.{Tree, TheOpen.Tree-F, TheFolds.fold-Tree}

-- the bit at this place is 1
abbrev pub has_bit : ℕ → ℕ → Bool
has_bit n i = nat_eq (bit_at n i) 1

-- the bytes of a set: bit b of the first word for a byte b below 128, and a bit of the second for
-- any other; nothing from 256 on
abbrev pub members : ByteSet → Bytes
members s b = if nat_lt b 128 then has_bit s.low b else has_bit s.high (b - 128)

-- the set without this byte
abbrev pub without : Bytes → ℕ → Bytes
without s a b = s b && not (nat_eq b a)

-- a byte was taken out of the set; none only if it was empty
abbrev pub Takes : ByteSet → Option ℕ → ByteSet → Type 0
Takes old taken new = MatchOption taken (members old ≡ nothing)
    (λ b. IsTrue (members old b) × (members new ≡ without (members old) b))

-- a word's lowest bit, and the word without it
pub record IsLowest (word k left : ℕ) : Type 0 where
  pub small : k < 128
  pub less : left < word
  pub held : IsTrue (has_bit word k)
  pub rest : (i : ℕ) → has_bit left i ≡ without (has_bit word) k i

-- one node, with the expression of each child in its place
abbrev pub node_expression : Tree-F Expression → Expression
node_expression Tree-F.Empty = empty
node_expression (Tree-F.Set s) = one_of (members s)
node_expression (Tree-F.Not s) = none_of (members s)
node_expression Tree-F.Begin = begin
node_expression Tree-F.End = end
node_expression (Tree-F.Cat parts) = cat parts.items
node_expression (Tree-F.Alt parts) = alt parts.items
node_expression (Tree-F.Repeat part least most) = repeat part.value least most

-- the expression that a tree means
abbrev pub expression_of : Tree → Expression
expression_of = fold-Tree Expression node_expression
