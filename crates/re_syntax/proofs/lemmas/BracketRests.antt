-- What follows a bracket expression, or a part of one, is the rest of the text after some bytes.
use Rattle.re_syntax.{proofs.Prelude.{◌≡◌, ℕ, [], ◌∷◌, ◌++◌, codes, refl, sym, ap, ◌∙◌, append_assoc, ListPlace, Text, Bytes, class_name, Expression, Point, bare, symbol, Element, class, equivalence, alone, span, Rest, closing, IsBracket, matching, non_matching}, specs.Brackets.more}

-- the second text is what follows some bytes of the first
abbrev pub ComesAfter : Text → Text → Type 0
ComesAfter t u = (w : Text) × (t ≡ w ++ u)

pub after_two : {t u v : Text} → ComesAfter t u → ComesAfter u v → ComesAfter t v
after_two {v = v} (w, e) (x, f) = (w ++ x, e ∙ ap (λ y. w ++ y) f ∙ sym (append_assoc w x v))

-- the same with one byte more in front
pub beyond_byte : {t u : Text} (b : ℕ) → ComesAfter t u → ComesAfter (b ∷ t) u
beyond_byte b (w, e) = (b ∷ w, ap (λ y. b ∷ y) e)

point_after : {t v : Text} {b : ℕ} → Point t v b → ComesAfter t v
point_after (bare b n) = (b ∷ [], refl)
point_after (symbol b) = (91 ∷ 46 ∷ b ∷ 46 ∷ 93 ∷ [], refl)

element_after : {p q : ListPlace} {t v : Text} {a : Bytes} → Element p t v a q → ComesAfter t v
element_after (class c) = (codes "[:" ++ class_name c ++ codes ":]", refl)
element_after (equivalence b) = (91 ∷ 61 ∷ b ∷ 61 ∷ 93 ∷ [], refl)
element_after (alone x may) = point_after x
element_after (span {v = v} x start y other le) = after_two (point_after x) (beyond_byte 45 (point_after y))

rest_after : {p : ListPlace} {t u : Text} {s : Bytes} → Rest p t u s → ComesAfter t u
rest_after (closing n) = (93 ∷ [], refl)
rest_after (more e r) = after_two (element_after e) (rest_after r)

pub bracket_after : {t u : Text} {e : Expression} → IsBracket t u e → ComesAfter t u
bracket_after (matching n r) = beyond_byte 91 (rest_after r)
bracket_after (non_matching r) = beyond_byte 91 (beyond_byte 94 (rest_after r))
