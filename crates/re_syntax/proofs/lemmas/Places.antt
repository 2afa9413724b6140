-- Bytes at places of a text, and what was found.
use Rattle.re_syntax.proofs.Prelude.{◌≡◌, ℕ, ◌+◌, ◌<◌, Bool, true, false, ◌∷◌, length, drop, Option, Some, None, MatchOption, MatchBool, is_some, slice_get, get_or, sym, ◌∙◌, drop-drop, drop_more, slice_get_within, slice_get-get_or, get_or_from_slice_get, Text}

-- the text from the place of a byte on
pub byte_at : (text : Text) (at b : ℕ) → slice_get text at ≡ Some b → drop at text ≡ b ∷ drop (at + 1) text
byte_at text at b e = cc (drop_more text at b (slice_get_within text at b e), get_or_from_slice_get text at b b e)

-- what follows the first byte of the rest of a text
pub beyond_first : (text : Text) (at b : ℕ) {rest : Text} → drop at text ≡ b ∷ rest → rest ≡ drop (at + 1) text
beyond_first text at b e = cc (drop-drop 1 at text)

-- whether something was found
pub either_found : (A B C : Type 0) (P : ℕ → Type 0) (r : Option ℕ) {b : Bool} → b ≡ is_some r → MatchOption r C P → (C → B) → ((x : ℕ) → P x → A) → MatchBool b A B
either_found A B C P None e h g f = rw e (g h)
either_found A B C P (Some x) e h g f = rw e (f x h)

-- where something was found, what is said of it
pub some_found : (A : Type 0) (P : ℕ → Type 0) (r : Option ℕ) {b : Bool} → b ≡ is_some r → b ≡ true → MatchOption r A P → (x : ℕ) × P x
some_found A P None e f h = absurd (let g : false ≡ true = sym e ∙ f in cc)
some_found A P (Some x) e f h = (x, h)

-- where nothing was found, what is said then
pub nothing_found : (A : Type 0) (P : ℕ → Type 0) (r : Option ℕ) {b : Bool} → b ≡ is_some r → b ≡ false → MatchOption r A P → A
nothing_found A P None e f h = h
nothing_found A P (Some x) e f h = absurd (let g : true ≡ false = sym e ∙ f in cc)

-- the byte at a place
pub byte_here : (text : Text) (at : ℕ) {b : ℕ} → at < length text → get_or text at 0 ≡ b → slice_get text at ≡ Some b
byte_here text at h e = cc (slice_get-get_or text at 0 h)

-- the text from there on
pub front_here : (text : Text) (at : ℕ) {b : ℕ} → at < length text → get_or text at 0 ≡ b → drop at text ≡ b ∷ drop (at + 1) text
front_here text at {b} h e = byte_at text at b (byte_here text at h e)
