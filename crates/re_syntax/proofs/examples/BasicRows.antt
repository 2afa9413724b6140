-- Worked examples of basic expressions: texts and what they spell.
use Rattle.re_syntax.{proofs.{Prelude.{ℕ, Bool, [], ◌∷◌, Some, None, IsTrue, codes, refl, arith, Basic, Text, empty, begin, end, repeat, cat, alt, byte, IsNumber, IsAllowed, exactly, of_group, IsSpelled}, lemmas.SpelledParts.{ItemReads, single, group, repeated, none, anchor, item, last, more, spells}}, specs.{declared.tokens.ItemPlace.ItemPlace, BasicTokens.{star, interval, is_ordinary, opens, closes, parts, leads, trails, repeats, dollar, ordinary}}}

-- a byte that stands for itself
itself : {g : Bool} {p : ItemPlace} {t : Text} (b : ℕ) → IsTrue (is_ordinary p b) → ItemReads Basic g p 0 (b ∷ t) t (byte b)
itself b h = single (ordinary b h)

-- `^*a`: the star is the first item after the anchor
star_after_anchor : IsSpelled Basic (codes "^*a") (cat (begin ∷ byte 42 ∷ byte 97 ∷ []))
star_after_anchor = spells (last (anchor (leads refl) (item (itself 42 refl) (item (itself 97 refl) none)))) (omega arith)

-- `**`: the first star is a byte, the second repeats it
two_stars : IsSpelled Basic (codes "**") (repeat (byte 42) 0 None)
two_stars = spells (last (item (repeated (itself 42 refl) (repeats refl star)) none)) (omega arith)

-- `a^b$c`: neither is an anchor
inner_marks : IsSpelled Basic (codes "a^b$c") (cat (byte 97 ∷ byte 94 ∷ byte 98 ∷ byte 36 ∷ byte 99 ∷ []))
inner_marks = spells (last (item (itself 97 refl) (item (itself 94 refl) (item (itself 98 refl)
    (item (single (dollar (λ a. elim a [ ]))) (item (itself 99 refl) none)))))) (omega arith)

-- `a\(b$\)`: a group has anchors of its own
end_in_group : IsSpelled Basic (codes "a\\(b$\\)") (cat (byte 97 ∷ cat (byte 98 ∷ end ∷ []) ∷ []))
end_in_group = spells (last (item (itself 97 refl)
    (item (group opens (last (item (itself 98 refl) (item (single (trails of_group)) none))) (λ q. closes refl)) none))) (omega arith)

-- `a\{2\}*`: the duplications apply from left to right
interval_star : IsSpelled Basic (codes "a\\{2\\}*") (repeat (repeat (byte 97) 2 (Some 2)) 0 None)
interval_star = spells (last (item (repeated (repeated (itself 97 refl) (repeats refl (interval (exactly (codes "2") two) allowed))) (repeats refl star)) none)) (omega arith)
  where
    two : IsNumber (codes "2")
    two = record { not_empty = λ e. cc; digits = refl }

    allowed : IsAllowed 2 (Some 2)
    allowed = record { least_fits = omega arith; most_fits = omega arith; ordered = omega arith }

-- `\|`: a branch may be empty
empty_branches : IsSpelled Basic (codes "\\|") (alt (empty ∷ empty ∷ []))
empty_branches = spells (more none (λ q. parts) (last none)) (omega arith)

-- `a\|^*b`: a caret that is first in its branch, and a star after it
begin_in_branch : IsSpelled Basic (codes "a\\|^*b") (alt (byte 97 ∷ cat (begin ∷ byte 42 ∷ byte 98 ∷ []) ∷ []))
begin_in_branch = spells (more (item (itself 97 refl) none) (λ q. parts)
    (last (anchor (leads refl) (item (itself 42 refl) (item (itself 98 refl) none))))) (omega arith)
