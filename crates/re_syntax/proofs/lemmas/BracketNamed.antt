-- Classes and equivalence classes of bracket expressions, by what a cursor passes or finds.
use Rattle.re_syntax.proofs.Prelude.{◌≡◌, ℕ, ◌∷◌, ◌++◌, codes, ListPlace, AfterRange, Class, Cursor, Text, Bytes, only, class_name, in_class, Element, class, equivalence, left, Passes}

-- an element of a text is one of an equal text
element_along : {p q : ListPlace} {t u v : Text} {a : Bytes} → t ≡ u → Element p u v a q → Element p t v a q
element_along e h = rw e h

-- a class was passed
pub class_passed : {p : ListPlace} {a b d : Cursor} (c : Class) → Passes (codes "[:") a b → Passes (class_name c ++ codes ":]") b d →
    Element p (left a) (left d) (in_class c) AfterRange
class_passed c x y = element_along (cc (x.passed, y.passed)) (class c)

-- an equivalence class was passed
pub equivalence_passed : {p : ListPlace} {a b d : Cursor} {c : ℕ} → Passes (codes "[=") a b → Passes (c ∷ codes "=]") b d →
    Element p (left a) (left d) (only c) AfterRange
equivalence_passed {c = c} x y = element_along (cc (x.passed, y.passed)) (equivalence c)
