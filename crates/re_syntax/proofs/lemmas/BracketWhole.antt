-- A whole bracket expression, from its bracket and the list of elements after it.
use Rattle.re_syntax.{proofs.Prelude.{◌≡◌, ℕ, ◌+◌, Bool, true, false, ◌∷◌, ◌++◌, Some, slice_get, MatchBool, codes, drop, ap, ◌∙◌, drop_more, slice_get_within, get_or_from_slice_get, Cursor, Text, Begins, Bytes, Expression, one_of, none_of, Rest, IsBracket, matching, non_matching, IsBracketUpTo, left, Passes, IsAt}, specs.declared.bracket.ListPlace.TheVariants.First}

-- bytes that come next are passed
pub passes_since : (r : Bool) {bytes : Text} {old new : Cursor} → MatchBool r (Passes bytes old new) (¬ Begins bytes (left old)) → Begins bytes (left old) → Passes bytes old new
passes_since true h k = h
passes_since false h k = absurd (h k)

-- `[^` and a list are a bracket expression
pub complement_stands : {t w u : Text} {s : Bytes} → t ≡ codes "[^" ++ w → Rest First w u s → IsBracket t u (none_of s)
complement_stands {u = u} {s = s} e r = rw e (non_matching r)

-- `[` and a list that does not begin with a caret are a bracket expression
pub set_stands : {t v u : Text} {s : Bytes} → t ≡ codes "[" ++ v → ¬ Begins (codes "[^") t → Rest First v u s → IsBracket t u (one_of s)
set_stands {u = u} {s = s} e h r = rw e (matching (λ (w, f). h (w, e ∙ ap (λ x. 91 ∷ x) f)) r)

-- a cursor at a place has the text from there on left
pub left_at : {text : Text} {at : ℕ} {c : Cursor} → IsAt text at c → left c ≡ drop at text
left_at h = cc (h.text_is, h.place_is)

-- the byte at a place comes next there
pub next_byte : {text : Text} {from : ℕ} (b : ℕ) {c : Cursor} → slice_get text from ≡ Some b → IsAt text from c → left c ≡ b ∷ drop (from + 1) text
next_byte {text} {from} b e h =
    left_at h ∙ drop_more text from b (slice_get_within text from b e) ∙ ap (λ x. x ∷ drop (from + 1) text) (get_or_from_slice_get text from b b e)

-- the reported place is that of the cursor
pub up_to : {text : Text} {from place : ℕ} (c : Cursor) {e : Expression} → c.text.now ≡ text → place ≡ c.at → IsBracket (drop from text) (left c) e → IsBracketUpTo text from place e
up_to c f g h = record { within = rw g (rw f at c.in_text); stands = rw g (rw f at h) }
