-- The sequence of a text's bytes holds where the text occurs.
use Rattle.re_trees.proofs.{Prelude.{◌≡◌, ℕ, zero, suc, ◌+◌, ◌≤◌, List, [], ◌∷◌, ◌++◌, length, map, Some, slice_get, drop, refl, arith, eq-eqb, false, length-append, length-drop, eqb-true, Text, Expression, cat, byte, sequence, Holds, Matches}, lemmas.HoldsDecided.Holds-le}

-- a sequence holds where its members do one after another
pub sequence-cat : (line : Text) (es : List Expression) (i j : ℕ) → Holds line (sequence es) i j → Holds line (cat es) i j
sequence-cat line [] i j h = h
sequence-cat line (e ∷ []) i j h = (j, h, refl)
sequence-cat line (e ∷ f ∷ es) i j h = h

pub cat-sequence : (line : Text) (es : List Expression) (i j : ℕ) → Holds line (cat es) i j → Holds line (sequence es) i j
cat-sequence line [] i j h = h
cat-sequence line (e ∷ []) i j (k, first, same) = rw (← same) first
cat-sequence line (e ∷ f ∷ es) i j h = h

-- the byte at a place, by what is left from there on
byte_at : (line : Text) (i b : ℕ) (rest : Text) → drop i line ≡ b ∷ rest → (slice_get line i ≡ Some b) × (drop (suc i) line ≡ rest)
byte_at [] zero b rest e = absurd cc
byte_at [] (suc i) b rest e = absurd cc
byte_at (c ∷ line) zero b rest e = (cc, cc)
byte_at (c ∷ line) (suc i) b rest e = byte_at _ i b _ e

left_at : (line : Text) (i b : ℕ) → slice_get line i ≡ Some b → drop i line ≡ b ∷ drop (suc i) line
left_at [] i b e = absurd cc
left_at (c ∷ line) zero b e = cc
left_at (c ∷ line) (suc i) b e = left_at line i b e

one_byte : (line : Text) (i b : ℕ) → slice_get line i ≡ Some b → Holds line (byte b) i (i + 1)
one_byte line i b at = (b, at, eq-eqb b b refl, refl)

cat_stands : (line p : Text) (i : ℕ) (rest : Text) → drop i line ≡ p ++ rest → Holds line (cat (map byte p)) i (i + length p)
cat_stands line [] i rest e = omega arith
cat_stands line (b ∷ p) i rest e =
    let here = byte_at line i b (p ++ rest) e in
    let later = cat_stands line p (suc i) rest here.1 in
    let next : suc i ≡ i + 1 = omega arith in
    let end : suc i + length p ≡ i + length (b ∷ p) = omega arith in
    (i + 1, one_byte line i b here.0, rw (← next, ← end) later)

-- where the text occurs the sequence of its bytes holds
pub stands-holds : (line p : Text) (i : ℕ) (rest : Text) → drop i line ≡ p ++ rest → Holds line (sequence (map byte p)) i (i + length p)
stands-holds line p i rest e = cat-sequence line (map byte p) i (i + length p) (cat_stands _ p i _ e)

cat_holds : (line p : Text) (i j : ℕ) → Holds line (cat (map byte p)) i j → drop i line ≡ p ++ drop j line
cat_holds line [] i j same = rw same
cat_holds line (b ∷ p) i j (k, (c, at, is, next), later) =
    let step : suc i ≡ k = omega arith in
    rw (left_at line i c at, eqb-true c b is, step, cat_holds line p k j later)

-- where the sequence of a text's bytes holds the text occurs
pub holds-stands : (line p : Text) (i j : ℕ) → Holds line (sequence (map byte p)) i j → drop i line ≡ p ++ drop j line
holds-stands line p i j h = cat_holds line p i j (sequence-cat line (map byte p) i j h)

-- a text that occurs at some place of the line is matched by the sequence of its bytes
pub stands-matches : (line p : Text) (i : ℕ) (rest : Text) → i ≤ length line → drop i line ≡ p ++ rest → Matches (sequence (map byte p)) line false
stands-matches line p i rest h e =
    let lengths : length (drop i line) ≡ length p + length rest = cc (length-append p rest) in
    (i, i + length p, omega (arith, length-drop i line), stands-holds line p i rest e)

-- a text whose bytes in sequence match the line occurs at some place of it
pub matches-stands : (line p : Text) → Matches (sequence (map byte p)) line false → (i : ℕ) × (i ≤ length line) × (rest : Text) × (drop i line ≡ p ++ rest)
matches-stands line p (i, j, within, h) = (i, omega (arith, Holds-le line (sequence (map byte p)) i j h), drop j line, holds-stands line p i j h)
