-- The last lines that are held, in a queue of memory for lines.
use Rattle.grep_core.proofs.{Prelude.{◌≡◌, ℕ, ◌+◌, ◌-◌, ◌<◌, ◌≤◌, min, List, [], ◌∷◌, ◌++◌, length, map, drop, refl, sym, ap, ◌∙◌, arith, length-drop, drop-drop, map-append, length-map, Text, last_of}, lemmas.WaitingRows.{last_of-more, length-last_of}}

-- the first is none of the last ones
last_of-drop : {A : Type 0} (n : ℕ) (xs : List A) → n < length xs → last_of n (drop 1 xs) ≡ last_of n xs
last_of-drop n xs h =
    let places : 1 + (length xs - 1 - n) ≡ length xs - n = omega (arith, h) in
    ap (λ m. drop (m - n) (drop 1 xs)) (length-drop 1 xs) ∙ drop-drop (length xs - 1 - n) 1 xs ∙ ap (λ m. drop m xs) places

map_rest : {V : Type 0} (f : V → Text) (xs : List V) → map f (drop 1 xs) ≡ drop 1 (map f xs)
map_rest f [] = refl
map_rest f (x ∷ xs) = refl

-- a line was appended to the queue, and its first, which was free then, was taken out
pub pushed : {V : Type 0} (f : V → Text) {count : ℕ} (limit held : ℕ) {more now : List V} (old : List V) (x : V) {line : Text} → held ≤ length old → held ≤ limit → count ≡ min (held + 1) limit → more ≡ old ++ x ∷ [] → f x ≡ line → now ≡ drop 1 more → count < length more
    → last_of count (map f now) ≡ last_of limit (last_of held (map f old) ++ line ∷ [])
pushed f {count} limit held {more} old x {line} within few is grown is_line rest free =
    let texts = ap (map f) grown ∙ map-append f old (x ∷ []) ∙ ap (λ l. map f old ++ l ∷ []) is_line in
    ap (λ ls. last_of count (map f ls)) rest ∙ ap (last_of count) (map_rest f more) ∙ last_of-drop count (map f more) (omega (arith, free, length-map more f)) ∙ ap (last_of count) texts ∙ ap (λ n. last_of n (map f old ++ line ∷ [])) is
    ∙ sym (last_of-more _ _ _ _ (omega (arith, within, length-map old f)) few)

-- no more lines are held than may be
pub few_held : {V : Type 0} (f : V → Text) (held limit : ℕ) (items : List V) → held ≤ length items → held ≤ limit → length (last_of held (map f items)) ≤ limit
few_held f held limit items within few = omega (arith, few, length-last_of held (map f items) (omega (arith, within, length-map items f)))
