-- The bytes that stand for themselves after a backslash, in basic and extended expressions (XBD
-- 9.3.3, 9.4.3).
use Rattle.std.specs.{Prelude.{ℕ, Bool, ◌||◌, nat_eq}, List.list_any}
use Rattle.re_trees.specs.{declared.class.Class.TheVariants.Alnum, Bytes.{Text, in_class}}

abbrev pub is_in : Text → ℕ → Bool
is_in t b = list_any (λ c. nat_eq c b) t

-- the bytes that do not stand for themselves after a backslash: letters, digits and these others
abbrev pub is_undefined : Text → ℕ → Bool
is_undefined others b = in_class Alnum b || is_in others b
