-- Strings that a sequence of bytes needs.
use Rattle.{re_needle.proofs.Prelude.{append_assoc, take-append-drop, ◌<◌, ◌∙◌, ap, get_or, take, map-append, take_more, expression_of, Tree, ◌≡◌, ℕ, ◌+◌, ◌≤◌, List, [], ◌∷◌, ◌++◌, length, map, drop, refl, sym, subst, arith, append-nil, Text, Expression, byte, cat, sequence, Holds, StandsBetween, IsNeeded}, re_trees.proofs.lemmas.{FixedStrings.{cat-sequence, sequence-cat, holds-stands}, HoldsDecided.Holds-le}, re_runs.proofs.lemmas.Occurrences.stands-occurs}

-- a sequence of two lists of members is cut between them
pub cat_cut : (line : Text) (xs ys : List Expression) (i j : ℕ) → Holds line (cat (xs ++ ys)) i j → (k : ℕ) × Holds line (cat xs) i k × Holds line (cat ys) k j
cat_cut line [] ys i j h = (i, refl, h)
cat_cut line (x ∷ xs) ys i j (m, first, later) = let rest = cat_cut line xs ys m j later in (rest.0, (m, first, rest.1), rest.2)

-- what there is of the parts up to this one
pub map_grown : {Y : Type 0} (f : Tree → Y) (parts : List Tree) (i : ℕ) {part : Tree} → i < length parts → part ≡ get_or parts i part → map f (take (i + 1) parts) ≡ map f (take i parts) ++ f part ∷ []
map_grown f parts i {part} lt is = cc (take_more parts i part lt, map-append f (take i parts) (get_or parts i part ∷ []))

-- their expressions
pub parts_grown : (parts : List Tree) (i : ℕ) {part : Tree} → i < length parts → part ≡ get_or parts i part
    → map expression_of (take (i + 1) parts) ≡ map expression_of (take i parts) ++ expression_of part ∷ []
parts_grown parts i lt is = map_grown expression_of _ i lt is

-- and those of all parts, around one of them
pub parts_around : (parts : List Tree) (i : ℕ) {part : Tree} → i < length parts → part ≡ get_or parts i part
    → map expression_of parts ≡ map expression_of (take i parts) ++ expression_of part ∷ map expression_of (drop (i + 1) parts)
parts_around parts i {part} lt is =
    let later = map expression_of (drop (i + 1) parts) in
    ap (map expression_of) (sym (take-append-drop (i + 1) parts)) ∙ map-append expression_of (take (i + 1) parts) (drop (i + 1) parts) ∙ ap (λ l. l ++ later) (parts_grown _ i lt is)
    ∙ append_assoc (map expression_of (take i parts)) (expression_of part ∷ []) later

-- bytes one after another hold on a stretch of their length
cat_length : (line text : Text) (i j : ℕ) → Holds line (cat (map byte text)) i j → j ≡ i + length text
cat_length line [] i j same = omega arith
cat_length line (b ∷ text) i j (k, (c, at, is, next), later) = omega (arith, next, cat_length line text k j later)

-- a text whose bytes are the first members is where the stretch begins
leads : (line text : Text) (rest : List Expression) (i j : ℕ) → j ≤ length line → Holds line (cat (map byte text ++ rest)) i j → StandsBetween line text i j
leads line text rest i j within h =
    let cut = cat_cut line (map byte text) rest i j h in let k : ℕ = cut.0 in
    let bytes : Holds line (cat (map byte text)) i k = cut.1 in let long = cat_length line text i k bytes in
    let before = Holds-le line (cat rest) k j cut.2 in
    (i, omega arith, omega arith, stands-occurs line text (drop k line) i (omega arith) (holds-stands line text i k (cat-sequence line (map byte text) i k bytes)))

-- bytes one after another need their text
pub sequence_needed : (text : Text) → IsNeeded text (sequence (map byte text))
sequence_needed text = λ line i j within h. leads line text [] i j within (rw (append-nil (map byte text)) (sequence-cat line (map byte text) i j h))
