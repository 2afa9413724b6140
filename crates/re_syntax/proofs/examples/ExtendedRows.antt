-- Worked examples of extended expressions: texts and what they spell.
use Rattle.re_syntax.{proofs.{Prelude.{ℕ, Bool, [], ◌∷◌, Some, None, IsTrue, codes, refl, arith, Extended, Text, empty, begin, end, repeat, cat, alt, byte, IsNumber, IsAllowed, exactly, up_to, IsSpelled}, lemmas.{ExtendedBraces.{not_number_first, no_number_after, no_closing}, SpelledParts.{ItemReads, ItemsRead, single, group, repeated, none, anchor, item, last, more, spells}}}, specs.{declared.tokens.ItemPlace.ItemPlace, ExtendedTokens.{star, interval, is_ordinary, opens, closes, parts, leads, repeats, dollar, ordinary, brace}}}

-- a byte that stands for itself; one byte and nothing else
itself : {g : Bool} {p : ItemPlace} {t : Text} (b : ℕ) → IsTrue (is_ordinary g b) → ItemReads Extended g p 0 (b ∷ t) t (byte b)
itself b h = single (ordinary b h)

alone : {g : Bool} {p : ItemPlace} {t : Text} (b : ℕ) → IsTrue (is_ordinary g b) → ItemsRead Extended g p 0 (b ∷ t) t (byte b ∷ [])
alone b h = item (itself b h) none

-- `a||b`: a branch may be empty
empty_between : IsSpelled Extended (codes "a||b") (alt (byte 97 ∷ empty ∷ byte 98 ∷ []))
empty_between = spells (more (alone 97 refl) (λ q. parts) (more none (λ q. parts) (last (alone 98 refl)))) (omega arith)

-- `(a))`: outside all groups the closing stands for itself
closing_after : IsSpelled Extended (codes "(a))") (cat (byte 97 ∷ byte 41 ∷ []))
closing_after = spells (last (item (group opens (last (alone 97 refl)) (λ q. closes refl)) (alone 41 refl))) (omega arith)

-- `$*`: an end takes a duplication
repeated_end : IsSpelled Extended (codes "$*") (repeat end 0 None)
repeated_end = spells (last (item (repeated (single dollar) (repeats refl star)) none)) (omega arith)

-- `a^b`: an anchor at any place
begin_between : IsSpelled Extended (codes "a^b") (cat (byte 97 ∷ begin ∷ byte 98 ∷ []))
begin_between = spells (last (item (itself 97 refl) (anchor leads (alone 98 refl)))) (omega arith)

-- `(a$|b)c`: an anchor in a group
end_in_group : IsSpelled Extended (codes "(a$|b)c") (cat (alt (cat (byte 97 ∷ end ∷ []) ∷ byte 98 ∷ []) ∷ byte 99 ∷ []))
end_in_group = spells (last (item (group opens (more (item (itself 97 refl) (item (single dollar) none)) (λ q. parts)
    (last (alone 98 refl))) (λ q. closes refl)) (alone 99 refl))) (omega arith)

-- `a{,}`: no number follows the brace
no_numbers : IsSpelled Extended (codes "a{,}") (cat (byte 97 ∷ byte 123 ∷ byte 44 ∷ byte 125 ∷ []))
no_numbers = spells (last (item (itself 97 refl) (item (single (brace (no_number_after (codes "}") refl))) (item (itself 44 refl) (alone 125 refl))))) (omega arith)

-- `a{2,`: nothing closes the interval
brace_comma : IsSpelled Extended (codes "a{2,") (cat (byte 97 ∷ byte 123 ∷ byte 50 ∷ byte 44 ∷ []))
brace_comma = spells (last (item (itself 97 refl) (item (single (brace (no_closing refl))) (item (itself 50 refl) (alone 44 refl))))) (omega arith)

two : IsNumber (codes "2")
two = record { not_empty = λ e. cc; digits = refl }

two_allowed : IsAllowed 2 (Some 2)
two_allowed = record { least_fits = omega arith; most_fits = omega arith; ordered = omega arith }

-- `a{{2}`: the first brace stands for itself and is repeated
two_braces : IsSpelled Extended (codes "a{{2}") (cat (byte 97 ∷ repeat (byte 123) 2 (Some 2) ∷ []))
two_braces = spells (last (item (itself 97 refl)
    (item (repeated (single (brace (not_number_first refl refl))) (repeats refl (interval (exactly (codes "2") two) two_allowed))) none))) (omega arith)

-- `a{,2}`: no least number
no_least : IsSpelled Extended (codes "a{,2}") (repeat (byte 97) 0 (Some 2))
no_least = spells (last (item (repeated (itself 97 refl) (repeats refl (interval (up_to (codes "2") two) allowed))) none)) (omega arith)
  where
    allowed : IsAllowed 0 (Some 2)
    allowed = record { least_fits = omega arith; most_fits = omega arith; ordered = omega arith }
