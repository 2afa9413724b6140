-- Bytes, their classes and their other case in the POSIX locale (POSIX.1-2017 XBD 7.3.1, 9.3.5).
use Rattle.std.specs.Prelude.{ℕ, ◌≡◌, ◌+◌, ◌&&◌, if◌then◌else◌, List, nat_le, codes, Bool, ◌-◌}
use Rattle.std.specs.Prelude.{◌++◌, nat_eq, ◌||◌}
use Rattle.re_trees.specs.declared.class.Class.TheVariants.{Upper, Lower, Digit, Alpha, Alnum}
use Rattle.re_trees.specs.declared.class.Class.TheVariants.{Blank, Space, Cntrl, Punct, Graph}
use Rattle.re_trees.specs.declared.class.Class.{TheVariants.{Print, Xdigit}, Class}

abbrev pub Text : Type 0
Text = List ℕ

abbrev pub Begins : Text → Text → Type 0
Begins front t = (rest : Text) × (t ≡ front ++ rest)

-- a set of bytes, by its test
abbrev pub Bytes : Type 0
Bytes = ℕ → Bool

abbrev pub nothing : Bytes
nothing b = nat_eq 0 1

abbrev pub only : ℕ → Bytes
only a b = nat_eq b a

-- the bytes from the first to the second, both included, by value
abbrev pub range : ℕ → ℕ → Bytes
range low high b = nat_le low b && nat_le b high

abbrev pub union : Bytes → Bytes → Bytes
union s t b = s b || t b

-- the bytes that a period means: any but NUL (XBD 9.3.4)
abbrev pub any_but_nul : Bytes
any_but_nul = range 1 255

-- the name of a class in a bracket expression
abbrev pub class_name : Class → Text
class_name Upper = codes "upper"
class_name Lower = codes "lower"
class_name Digit = codes "digit"
class_name Alpha = codes "alpha"
class_name Alnum = codes "alnum"
class_name Blank = codes "blank"
class_name Space = codes "space"
class_name Cntrl = codes "cntrl"
class_name Punct = codes "punct"
class_name Graph = codes "graph"
class_name Print = codes "print"
class_name Xdigit = codes "xdigit"

abbrev pub in_class : Class → Bytes
in_class Upper = range 65 90
in_class Lower = range 97 122
in_class Digit = range 48 57
in_class Alpha = union (range 65 90) (range 97 122)
in_class Alnum = union (union (range 65 90) (range 97 122)) (range 48 57)
in_class Blank = union (only 32) (only 9)
in_class Space = union (only 32) (range 9 13)
in_class Cntrl = union (range 0 31) (only 127)
in_class Punct = union (union (range 33 47) (range 58 64)) (union (range 91 96) (range 123 126))
in_class Graph = range 33 126
in_class Print = range 32 126
in_class Xdigit = union (range 48 57) (union (range 65 70) (range 97 102))

-- the other case of a letter; any other byte is unchanged
abbrev pub other_case : ℕ → ℕ
other_case b = if in_class Upper b then b + 32 else if in_class Lower b then b - 32 else b

-- the set, with the other case of each of its letters
abbrev pub closed : Bytes → Bytes
closed s b = s b || s (other_case b)
