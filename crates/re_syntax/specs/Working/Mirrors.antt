-- Lists of open groups and levels: in the code the innermost is last, in definitions first.
use Rattle.std.specs.Prelude.{◌≡◌, List, [], ◌∷◌, ◌++◌}

-- each element of one list is related to its partner, from the end of one and the front of the
-- other, given the elements before it
pub data Mirrors {A B : Type 0} (R : List A → A → B → Type 0) : List A → List B → Type 0 where
  neither : Mirrors R [] []
  both : {xs all : List A} {ys : List B} {y : B} (x : A) → Mirrors R xs ys → R xs x y →
      all ≡ xs ++ x ∷ [] → Mirrors R all (y ∷ ys)
