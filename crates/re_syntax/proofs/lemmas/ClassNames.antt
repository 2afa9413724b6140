-- A class is determined by its name.
use Rattle.re_syntax.proofs.Prelude.{◌≡◌, ℕ, ◌<◌, get_or, arith, nat_eq, List, [], ◌∷◌, ◌++◌, Option, Some, None, codes, if◌then◌else◌, refl, ap, Class, Upper, Lower, Digit, Alpha, Alnum, Blank, Space, Cntrl, Punct, Graph, Print, Xdigit, Text, class_name}

-- what follows the first text in the second
abbrev strip : Text → Text → Option Text
strip [] t = Some t
strip (a ∷ u) [] = None
strip (a ∷ u) (b ∷ t) = if nat_eq a b then strip u t else None

-- the class whose name was found, or else what the other classes give
abbrev or_next : Option Text → Class → Option (Class × Text) → Option (Class × Text)
or_next (Some rest) c _ = Some (c, rest)
or_next None c others = others

-- the first of these classes whose name and `:]` begin the text, and what follows
unfoldable class_rest : List Class → Text → Option (Class × Text)
class_rest [] t = None
class_rest (c ∷ cs) t = or_next (strip (class_name c ++ codes ":]") t) c (class_rest cs t)

-- all classes
abbrev pub classes : List Class
classes = Upper ∷ Lower ∷ Digit ∷ Alpha ∷ Alnum ∷ Blank ∷ Space ∷ Cntrl ∷ Punct ∷ Graph ∷ Print ∷ Xdigit ∷ []

-- each class is found by its name
class_rest-name : (c : Class) (t : Text) → class_rest classes (class_name c ++ codes ":]" ++ t) ≡ Some (c, t)
unfolding class_rest
class_rest-name Upper t = refl
class_rest-name Lower t = refl
class_rest-name Digit t = refl
class_rest-name Alpha t = refl
class_rest-name Alnum t = refl
class_rest-name Blank t = refl
class_rest-name Space t = refl
class_rest-name Cntrl t = refl
class_rest-name Punct t = refl
class_rest-name Graph t = refl
class_rest-name Print t = refl
class_rest-name Xdigit t = refl

-- the two classes are equal, and so are the texts after their names
pub record SameClass (c d : Class) (t u : Text) : Type 0 where
  pub classes_same : c ≡ d
  pub rests : t ≡ u

-- a text begins with the name of at most one class
pub class_name-unique : (c d : Class) (t u : Text) → class_name c ++ codes ":]" ++ t ≡ class_name d ++ codes ":]" ++ u → SameClass c d t u
class_name-unique c d t u e =
    let x : Class × Text = (c, t) in
    let y : Class × Text = (d, u) in
    let p : class_rest classes (class_name c ++ codes ":]" ++ t) ≡ Some x = class_rest-name c t in
    let q : class_rest classes (class_name d ++ codes ":]" ++ u) ≡ Some y = class_rest-name d u in
    let same : x ≡ y = cc in
    record { classes_same = ap (λ r. r.0) same; rests = ap (λ r. r.1) same }

-- what holds at each place of the list of classes holds of each class
pub each_class : (P : Class → Type 0) → ((k : ℕ) → k < 12 → P (get_or classes k Upper)) → (c : Class) → P c
each_class P h Upper = h 0 (omega arith)
each_class P h Lower = h 1 (omega arith)
each_class P h Digit = h 2 (omega arith)
each_class P h Alpha = h 3 (omega arith)
each_class P h Alnum = h 4 (omega arith)
each_class P h Blank = h 5 (omega arith)
each_class P h Space = h 6 (omega arith)
each_class P h Cntrl = h 7 (omega arith)
each_class P h Punct = h 8 (omega arith)
each_class P h Graph = h 9 (omega arith)
each_class P h Print = h 10 (omega arith)
each_class P h Xdigit = h 11 (omega arith)
