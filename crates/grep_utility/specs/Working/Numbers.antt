-- The digits of a number.
use Rattle.std.specs.Prelude.{ℕ, ◌^◌, min, if◌then◌else◌, [], ◌∷◌, Option, Some, None}
use Rattle.std.specs.List.{list_all}
use Rattle.{re_trees.specs.declared.class.Class.TheVariants.Digit, re_syntax.specs.Intervals.value}
use Rattle.re_syntax.specs.Bytes.{Text, in_class}

-- the value of one decimal digit or more, at most 2 ^ 64
abbrev pub digits_of : Text → Option ℕ
digits_of [] = None
digits_of (b ∷ rest) =
    if list_all (in_class Digit) (b ∷ rest) then Some (min (value (b ∷ rest)) (2 ^ 64)) else None
