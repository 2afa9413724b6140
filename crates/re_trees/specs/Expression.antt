-- Regular expressions, apart from how they are written (XBD 9.3, 9.4).
use Rattle.std.specs.Prelude.{ℕ, List, [], ◌∷◌, Option}
use Rattle.re_trees.specs.Bytes.{Bytes, only}

pub data Expression : Type 0 where
  empty : Expression
  -- one byte of the set; one byte outside it
  one_of : Bytes → Expression
  none_of : Bytes → Expression
  -- the line's first place; its last place
  begin : Expression
  end : Expression
  -- a sequence of no member; a first member and the rest of the sequence
  cat_none : Expression
  cat_more : Expression → Expression → Expression
  -- a choice among none; a first branch and the rest of the choice
  alt_none : Expression
  alt_more : Expression → Expression → Expression
  -- at least as often as the first number says, and at most as often as the second, if there is one
  repeat : Expression → ℕ → Option ℕ → Expression

-- one after another
abbrev pub cat : List Expression → Expression
cat [] = cat_none
cat (e ∷ es) = cat_more e (cat es)

-- any one of them
abbrev pub alt : List Expression → Expression
alt [] = alt_none
alt (e ∷ es) = alt_more e (alt es)

abbrev pub byte : ℕ → Expression
byte b = one_of (only b)

-- no item is the empty expression, one item is itself, several are one after another
abbrev pub sequence : List Expression → Expression
sequence [] = empty
sequence (e ∷ []) = e
sequence (e ∷ f ∷ es) = cat (e ∷ f ∷ es)

-- one branch is itself, several are any one of them
abbrev pub choice : List Expression → Expression
choice [] = empty
choice (e ∷ []) = e
choice (e ∷ f ∷ es) = alt (e ∷ f ∷ es)
