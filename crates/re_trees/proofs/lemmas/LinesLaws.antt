-- `lines_of` is the one list of lines of an input, and `list_of` is the one list of texts of a
-- pattern list.
use Rattle.re_trees.proofs.Prelude.{◌≡◌, ◌≢◌, ℕ, zero, suc, ◌⊎◌, inl, inr, false, nat_eq, List, [], ◌∷◌, ◌++◌, All, if◌then◌else◌, refl, sym, ap, ◌∙◌, arith, append_assoc, cond-false, ne_eqb, cases_eq, All-head, All-tail, All-nil, All-cons, Text, newline, put_before, lines_of, list_of, HasNoNewline, terminated, joined, AreLines, AreListed}

-- the first byte of a text without newline is none
pub first_differs : (b : ℕ) (t : Text) → HasNoNewline (b ∷ t) → nat_eq b newline ≡ false
first_differs b t h = ne_eqb b newline (All-head (λ x. x ≢ newline) b t h)

-- the rest of a text without newline has none
pub rest_has_none : (b : ℕ) (t : Text) → HasNoNewline (b ∷ t) → HasNoNewline t
rest_has_none b t h = All-tail (λ x. x ≢ newline) b t h

-- another byte before a text without newline leaves it without
pub none_before : (b : ℕ) (t : Text) → b ≢ newline → HasNoNewline t → HasNoNewline (b ∷ t)
none_before b t n h = All-cons (λ x. x ≢ newline) b t n h

-- the empty text has no newline
pub none_in_empty : HasNoNewline []
none_in_empty = All-nil (λ x. x ≢ newline)

-- what holds of the first text and of the rest holds of all
pub all_cons : (t : Text) (ts : List Text) → HasNoNewline t → All HasNoNewline ts → All HasNoNewline (t ∷ ts)
all_cons t ts h k zero d below = h
all_cons t ts h k (suc i) d below = k i d (omega arith)

-- what holds of all texts holds of the first
pub all_head : (t : Text) (ts : List Text) → All HasNoNewline (t ∷ ts) → HasNoNewline t
all_head t ts h = h zero t (omega arith)

-- what holds of all texts holds of the rest
pub all_tail : (t : Text) (ts : List Text) → All HasNoNewline (t ∷ ts) → All HasNoNewline ts
all_tail t ts h i d below = h (suc i) d (omega arith)

-- another byte may come before the first
pub byte_before : (b : ℕ) (t : Text) (ts : List Text) → b ≢ newline → All HasNoNewline (t ∷ ts) → All HasNoNewline ((b ∷ t) ∷ ts)
byte_before b t ts n h = all_cons (b ∷ t) ts (none_before b t n (all_head t ts h)) (all_tail t ts h)

-- everything holds of no text
pub all_none : All HasNoNewline []
all_none i d below = absurd (omega arith)

-- what the first line is, and what follows it
pub lines_of-line : (t rest : Text) → HasNoNewline t → lines_of (t ++ newline ∷ rest) ≡ t ∷ lines_of rest
unfolding lines_of
lines_of-line [] rest h = refl
lines_of-line (b ∷ t) rest h = rw (first_differs b t h, lines_of-line t rest (rest_has_none b t h))

-- a text without newline that is not empty is one line
pub lines_of-last : (b : ℕ) (t : Text) → HasNoNewline (b ∷ t) → lines_of (b ∷ t) ≡ (b ∷ t) ∷ []
unfolding lines_of
lines_of-last b [] h = cond-false _ _ _ (first_differs b [] h)
lines_of-last b (c ∷ t) h = rw (first_differs b (c ∷ t) h, lines_of-last c t (rest_has_none b (c ∷ t) h))

-- the bytes of lines are those of the first ones and then those of the others
pub terminated-append : (ts us : List Text) → terminated (ts ++ us) ≡ terminated ts ++ terminated us
terminated-append [] us = refl
terminated-append (t ∷ ts) us = cc (terminated-append ts us, append_assoc t (newline ∷ terminated ts) (terminated us))

-- the lines of texts that are each followed by a newline are those texts
pub lines_of-terminated : (ts : List Text) → All HasNoNewline ts → lines_of (terminated ts) ≡ ts
unfolding lines_of
lines_of-terminated [] h = refl
lines_of-terminated (t ∷ ts) h = cc (lines_of-line t (terminated ts) (all_head t ts h), lines_of-terminated ts (all_tail t ts h))

-- a last text that is not empty needs no newline to be a line
pub lines_of-unfinished : (ts : List Text) (b : ℕ) (u : Text) → All HasNoNewline (ts ++ (b ∷ u) ∷ []) → lines_of (terminated ts ++ b ∷ u) ≡ ts ++ (b ∷ u) ∷ []
lines_of-unfinished [] b u h = lines_of-last b u (all_head (b ∷ u) [] h)
lines_of-unfinished (t ∷ ts) b u h =
    ap lines_of (append_assoc t (newline ∷ terminated ts) (b ∷ u)) ∙ lines_of-line t (terminated ts ++ b ∷ u) (all_head t (ts ++ (b ∷ u) ∷ []) h)
    ∙ ap (λ us. t ∷ us) (lines_of-unfinished ts b u (all_tail t (ts ++ (b ∷ u) ∷ []) h))

-- an input has no other lines
pub lines_of-unique : (bytes : Text) (ts : List Text) → AreLines bytes ts → ts ≡ lines_of bytes
lines_of-unique bytes ts (none, inl whole) = sym (cc (lines_of-terminated ts none))
lines_of-unique bytes ts (none, inr (front, [], parts, full, whole)) = absurd (full refl)
lines_of-unique bytes ts (none, inr (front, b ∷ u, parts, full, whole)) = parts ∙ sym (cc (lines_of-unfinished _ b u (rw parts at none)))

-- a newline in front adds an empty first line
after_newline : (rest : Text) → AreLines rest (lines_of rest) → AreLines (newline ∷ rest) ([] ∷ lines_of rest)
after_newline rest (none, inl whole) = (all_cons [] _ none_in_empty none, inl (ap (λ t. newline ∷ t) whole))
after_newline rest (none, inr (front, last, parts, full, whole)) = (all_cons [] _ none_in_empty none, inr ([] ∷ front, last, ap (λ ts. [] ∷ ts) parts, full, ap (λ t. newline ∷ t) whole))

-- a list with a last member is not empty
nothing_ends : {A : Type 0} (front : List A) (x : A) → ◌≡◌ {A = List A} [] (front ++ x ∷ []) → ⊥
nothing_ends [] x e = cc
nothing_ends (y ∷ ys) x e = cc

-- a byte in front belongs to the first line
after_byte : (b : ℕ) → b ≢ newline → (rest : Text) (ts : List Text) → AreLines rest ts → AreLines (b ∷ rest) (put_before b ts)
after_byte b n rest [] (none, inl whole) = (all_cons (b ∷ []) [] (none_before b [] n none_in_empty) all_none, inr ([], b ∷ [], refl, λ e. cc, rw whole))
after_byte b n rest [] (none, inr (front, last, parts, full, whole)) = absurd (nothing_ends _ _ parts)
after_byte b n rest (t ∷ ts) (none, inl whole) = (byte_before b t ts n none, inl (rw whole))
after_byte b n rest (t ∷ ts) (none, inr ([], last, parts, full, whole)) =
    let one : t ≡ last = cc in
    let more : ts ≡ [] = cc in
    (byte_before b t ts n none, inr ([], b ∷ last, (cc), λ e. cc, rw whole))
after_byte b n rest (t ∷ ts) (none, inr (f ∷ front, last, parts, full, whole)) =
    let one : t ≡ f = cc in
    let more : ts ≡ front ++ last ∷ [] = cc in
    (byte_before b t ts n none, inr ((b ∷ f) ∷ front, last, (cc), full, rw whole))

-- the lines of an input are those of the definition
pub AreLines-lines_of : (bytes : Text) → AreLines bytes (lines_of bytes)
unfolding lines_of
AreLines-lines_of [] = (all_none, inl refl)
AreLines-lines_of (b ∷ rest) = go (cases_eq b newline) (AreLines-lines_of rest)
  where
    go : (b ≡ newline) ⊎ (b ≡ newline → ⊥) → AreLines rest (lines_of rest) → AreLines (b ∷ rest) (if nat_eq b newline then [] ∷ lines_of rest else put_before b (lines_of rest))
    go (inl e) h = rw e (after_newline rest h)
    go (inr n) h = rw (ne_eqb b newline n) (after_byte b n _ _ h)

-- the same for pattern lists
pub list_of-text : (t rest : Text) → HasNoNewline t → list_of (t ++ newline ∷ rest) ≡ t ∷ list_of rest
unfolding list_of
list_of-text [] rest h = refl
list_of-text (b ∷ t) rest h = rw (first_differs b t h, list_of-text t rest (rest_has_none b t h))

-- a text without newline is one pattern
pub list_of-last : (t : Text) → HasNoNewline t → list_of t ≡ t ∷ []
unfolding list_of
list_of-last [] h = refl
list_of-last (b ∷ t) h = rw (first_differs b t h, list_of-last t (rest_has_none b t h))

-- the patterns of texts that are joined by newlines are those texts
pub list_of-joined : (t : Text) (ts : List Text) → All HasNoNewline (t ∷ ts) → list_of (joined (t ∷ ts)) ≡ t ∷ ts
list_of-joined t [] h = list_of-last t (all_head t [] h)
list_of-joined t (u ∷ ts) h = list_of-text t _ (all_head t (u ∷ ts) h) ∙ ap (λ us. t ∷ us) (list_of-joined u ts (all_tail t (u ∷ ts) h))

-- a list has no other patterns
pub list_of-unique : (bytes : Text) (ts : List Text) → AreListed bytes ts → ts ≡ list_of bytes
list_of-unique bytes [] (none, full, whole) = absurd (full refl)
list_of-unique bytes (t ∷ ts) (none, full, whole) = sym (cc (list_of-joined t ts none))

-- a newline in front is an empty first pattern
listed_after_newline : (rest : Text) (ts : List Text) → AreListed rest ts → AreListed (newline ∷ rest) ([] ∷ ts)
listed_after_newline rest [] (none, full, whole) = absurd (full refl)
listed_after_newline rest (t ∷ ts) (none, full, whole) = (all_cons [] (t ∷ ts) none_in_empty none, λ e. cc, rw whole)

-- a byte in front belongs to the first pattern
listed_after_byte : (b : ℕ) → b ≢ newline → (rest : Text) (ts : List Text) → AreListed rest ts → AreListed (b ∷ rest) (put_before b ts)
listed_after_byte b n rest [] (none, full, whole) = absurd (full refl)
listed_after_byte b n rest (t ∷ []) (none, full, whole) = (byte_before b t [] n none, λ e. cc, rw whole)
listed_after_byte b n rest (t ∷ u ∷ ts) (none, full, whole) = (byte_before b t (u ∷ ts) n none, λ e. cc, rw whole)

-- the patterns of a list are those of the definition
pub AreListed-list_of : (bytes : Text) → AreListed bytes (list_of bytes)
unfolding list_of
AreListed-list_of [] = (all_cons [] [] none_in_empty all_none, λ e. cc, refl)
AreListed-list_of (b ∷ rest) = go (cases_eq b newline) (AreListed-list_of rest)
  where
    go : (b ≡ newline) ⊎ (b ≡ newline → ⊥) → AreListed rest (list_of rest) → AreListed (b ∷ rest) (if nat_eq b newline then [] ∷ list_of rest else put_before b (list_of rest))
    go (inl e) h = rw e (listed_after_newline _ _ h)
    go (inr n) h = rw (ne_eqb b newline n) (listed_after_byte b n _ _ h)
