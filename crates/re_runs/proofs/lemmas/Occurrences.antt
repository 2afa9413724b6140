-- Where a text is in a line, by a search for it.
use Rattle.re_runs.proofs.Prelude.{◌≡◌, ℕ, suc, ◌+◌, ◌<◌, ◌≤◌, [], ◌∷◌, ◌++◌, length, drop, get_or, refl, ◌∙◌, arith, length-append, length-drop, get_or-drop, get_or_append_left, Text, OccursAt}

-- the text begins the line where its bytes do
begins : (line text : Text) → length text ≤ length line → ((j : ℕ) → j < length text → get_or line j 0 ≡ get_or text j 0) → line ≡ text ++ drop (length text) line
begins line [] fits reads = refl
begins [] (b ∷ text) fits reads = absurd (omega arith)
begins (c ∷ line) (b ∷ text) fits reads = cc (reads 0 (omega arith), begins line text (omega arith) (λ j h. reads (suc j) (omega arith)))

-- the line from a place where a text occurs begins with the text
pub occurs-stands : (line text : Text) (k : ℕ) → OccursAt line text k → drop k line ≡ text ++ drop (length text) (drop k line)
occurs-stands line text k o =
    let long : length text ≤ length (drop k line) = let h = o.fits in omega (arith, length-drop k line) in
    begins _ _ long (λ j h. get_or-drop k line j 0 ∙ o.reads j h)

-- a text occurs at a place if the line from there on begins with it
pub stands-occurs : (line text rest : Text) (k : ℕ) → k ≤ length line → drop k line ≡ text ++ rest → OccursAt line text k
stands-occurs line text rest k h e =
    let lengths : length (drop k line) ≡ length text + length rest = cc (length-append text rest) in
    record { fits = omega (arith, length-drop k line); reads = λ j below. cc (get_or-drop k line j 0, get_or_append_left text rest 0 j below) }
