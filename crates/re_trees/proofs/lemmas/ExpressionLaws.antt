-- The equations of `expression_of`, one for each form of a tree.
use Rattle.re_trees.proofs.Prelude.{◌≡◌, ℕ, map, Option, Vec, Box, Global, sym, ap, ◌∙◌, Expression, empty, one_of, none_of, begin, end, cat, alt, repeat, expression_of, node_expression, members, ByteSet, Tree, Tree-F, fold-roll-Tree, Empty, Set, Not, Begin, End, Cat, Alt, Repeat, rolls-Empty, rolls-Set, rolls-Not, rolls-Begin, rolls-End, rolls-Cat, rolls-Alt, rolls-Repeat}

-- the empty string
pub expression-Empty : expression_of Empty ≡ empty
expression-Empty = ap expression_of (sym rolls-Empty) ∙ fold-roll-Tree Expression node_expression Tree-F.Empty

-- a byte of the set
pub expression-Set : (set : ByteSet) → expression_of (Set set) ≡ one_of (members set)
expression-Set set = cc (rolls-Set set, fold-roll-Tree Expression node_expression (Tree-F.Set set))

-- a byte outside the set
pub expression-Not : (set : ByteSet) → expression_of (Not set) ≡ none_of (members set)
expression-Not set = cc (rolls-Not set, fold-roll-Tree Expression node_expression (Tree-F.Not set))

-- the first place
pub expression-Begin : expression_of Begin ≡ begin
expression-Begin = ap expression_of (sym rolls-Begin) ∙ fold-roll-Tree Expression node_expression Tree-F.Begin

-- the last place
pub expression-End : expression_of End ≡ end
expression-End = ap expression_of (sym rolls-End) ∙ fold-roll-Tree Expression node_expression Tree-F.End

-- a sequence of the parts' expressions
pub expression-Cat : (parts : Vec Tree Global) → expression_of (Cat parts) ≡ cat (map expression_of parts.items)
expression-Cat parts = cc (rolls-Cat parts, fold-roll-Tree Expression node_expression (Tree-F.Cat parts))

-- a choice among the parts' expressions
pub expression-Alt : (parts : Vec Tree Global) → expression_of (Alt parts) ≡ alt (map expression_of parts.items)
expression-Alt parts = cc (rolls-Alt parts, fold-roll-Tree Expression node_expression (Tree-F.Alt parts))

-- the part's expression, repeated
pub expression-Repeat : (part : Box Tree Global) (least : ℕ) (most : Option ℕ) → expression_of (Repeat part least most) ≡ repeat (expression_of part.value) least most
expression-Repeat part least most = cc (rolls-Repeat part least most, fold-roll-Tree Expression node_expression (Tree-F.Repeat part least most))
