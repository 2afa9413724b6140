-- A line is added to the last chunk, or as a chunk of its own.
use Rattle.line_chunks.proofs.{Prelude.{◌≡◌, ℕ, zero, suc, ◌+◌, ◌-◌, ◌<◌, Bool, true, false, if◌then◌else◌, IfOk, OnErr, Result, Ok, Err, List, [], ◌∷◌, ◌++◌, length, set, get_or, ap, sym, ◌∙◌, refl, arith, append_assoc, append-nil, length-append, ◌≤◌, All-cons, All-head, All-nil, All-push, All-tail, Text, KeptLine, AreFilled, all_of, has_room, with_line, chunks_of, Entry}, lemmas.Sums.chunk_at}

-- the lines are those that were there, and the new one
pub joined_with : (limit : ℕ) (cs : List (List KeptLine)) (line : KeptLine) → all_of (with_line limit cs line) ≡ all_of cs ++ line ∷ []
joined_with limit [] line = refl
joined_with limit (c ∷ []) line = in_any_case (has_room limit c line.text)
  where
    in_any_case : (b : Bool) → all_of (if b then (c ++ line ∷ []) ∷ [] else c ∷ (line ∷ []) ∷ []) ≡ (c ++ []) ++ line ∷ []
    in_any_case true = cc (append-nil (c ++ line ∷ []), append-nil c)
    in_any_case false = ap (λ xs. xs ++ line ∷ []) (sym (append-nil c))
joined_with limit (c ∷ next ∷ cs) line = cc (joined_with limit (next ∷ cs) line, append_assoc c (all_of (next ∷ cs)) (line ∷ []))

-- the last chunk has room for it
pub with_last : (limit k : ℕ) (cs : List (List KeptLine)) (line : KeptLine) → k + 1 ≡ length cs → has_room limit (get_or cs k []) line.text ≡ true → set cs k (get_or cs k [] ++ line ∷ []) ≡ with_line limit cs line
with_last limit k [] line last room = absurd (omega arith)
with_last limit zero (c ∷ []) line last room = sym (rw room)
with_last limit (suc k) (c ∷ []) line last room = absurd (omega arith)
with_last limit zero (c ∷ next ∷ cs) line last room = absurd (omega arith)
with_last limit (suc k) (c ∷ next ∷ cs) line last room = rw (with_last limit k (next ∷ cs) line (omega arith) room)

-- the last chunk has none
pub with_new : (limit k : ℕ) (cs : List (List KeptLine)) (line : KeptLine) → k + 1 ≡ length cs → has_room limit (get_or cs k []) line.text ≡ false → cs ++ (line ∷ []) ∷ [] ≡ with_line limit cs line
with_new limit k [] line last full = absurd (omega arith)
with_new limit zero (c ∷ []) line last full = sym (rw full)
with_new limit (suc k) (c ∷ []) line last full = absurd (omega arith)
with_new limit zero (c ∷ next ∷ cs) line last full = absurd (omega arith)
with_new limit (suc k) (c ∷ next ∷ cs) line last full = rw (with_new limit k (next ∷ cs) line (omega arith) full)

-- there is no chunk
pub with_first : {n : ℕ} (limit : ℕ) (es : List Entry) (line : KeptLine) → n ≡ length es → n ≡ 0 → chunks_of es ++ (line ∷ []) ∷ [] ≡ with_line limit (chunks_of es) line
with_first limit [] line many none = refl
with_first limit (e ∷ es) line many none = absurd (omega arith)

-- whether the last entry's chunk has room
pub room_last : {n : ℕ} (limit : ℕ) (es : List Entry) {e : Entry} (text : Text) → n ≡ length es → 0 < n → e ≡ get_or es (n - 1) e → has_room limit e.chunk text ≡ has_room limit (get_or (chunks_of es) (n - 1) []) text
room_last {n} limit es {e} text many some read = rw (ap (λ (one : Entry). one.chunk) read ∙ sym (chunk_at es (n - 1) e (omega arith)))

-- each chunk has a line again
with_line_filled : (limit : ℕ) (cs : List (List KeptLine)) (line : KeptLine) → AreFilled cs → AreFilled (with_line limit cs line)
with_line_filled limit [] line filled = All-cons (λ xs. 1 ≤ length xs) (line ∷ []) [] (omega arith) (All-nil (λ xs. 1 ≤ length xs))
with_line_filled limit (c ∷ []) line filled = in_any_case (has_room limit c line.text)
  where
    in_any_case : (b : Bool) → AreFilled (if b then (c ++ line ∷ []) ∷ [] else c ∷ (line ∷ []) ∷ [])
    in_any_case true = All-cons (λ xs. 1 ≤ length xs) (c ++ line ∷ []) [] (omega (arith, length-append c (line ∷ []))) (All-nil (λ xs. 1 ≤ length xs))
    in_any_case false = All-push (λ xs. 1 ≤ length xs) (c ∷ []) (line ∷ []) filled (omega arith)
with_line_filled limit (c ∷ next ∷ cs) line filled = All-cons (λ xs. 1 ≤ length xs) c (with_line limit (next ∷ cs) line) (All-head (λ xs. 1 ≤ length xs) c (next ∷ cs) filled) (with_line_filled limit (next ∷ cs) line (All-tail (λ xs. 1 ≤ length xs) c (next ∷ cs) filled))

pub filled_after : {T E : Type 0} (result : Result T E) (limit : ℕ) (old new : List Entry) (line : KeptLine) → IfOk result (λ _. chunks_of new ≡ with_line limit (chunks_of old) line) → OnErr result (new ≡ old) → AreFilled (chunks_of old) → AreFilled (chunks_of new)
filled_after (Ok a) limit old new line is same filled = rw is (with_line_filled limit (chunks_of old) line filled)
filled_after (Err a) limit old new line is same filled = rw same filled

-- so the lines are of what is kept
pub lines_ok : {T E : Type 0} (result : Result T E) (limit : ℕ) {inside old : List (List KeptLine)} (new : List (List KeptLine)) (line : KeptLine) → inside ≡ old → IfOk result (λ _. new ≡ with_line limit inside line) → IfOk result (λ _. all_of new ≡ all_of old ++ line ∷ [])
lines_ok (Ok a) limit {inside} new line same is = cc (joined_with limit inside line)
lines_ok (Err a) limit new line same is = tt

-- chunks that were made are those that were wanted
pub made_ok : {T E : Type 0} (result : Result T E) (new made wanted : List (List KeptLine)) → IfOk result (λ _. new ≡ made) → made ≡ wanted → IfOk result (λ _. new ≡ wanted)
made_ok (Ok a) new made wanted is same = is ∙ same
made_ok (Err a) new made wanted is same = tt
