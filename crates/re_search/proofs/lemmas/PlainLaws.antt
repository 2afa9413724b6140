-- Strings that are added one after another, byte by byte.
use Rattle.{re_search.proofs.{Prelude.{Option, Some, None, is_some, false, eq-eqb, ◌≡◌, ◌≢◌, ℕ, ◌+◌, ◌<◌, List, [], ◌∷◌, ◌++◌, length, map, take, get_or, refl, sym, ap, ◌∙◌, subst, append_assoc, append-nil, arith, map-append, All-append, All-from_get_or, false≢true, IsFirstByte, is_byte, Text, Expression, newline, HasNoNewline, terminated, AddsEach, string_expression}, lemmas.PlainStrings.one_more}, re_syntax.proofs.lemmas.LinesLaws.{all_none, all_cons, terminated-append}}

-- no string
pub no_strings : (old : Text) → AddsEach [] old old
no_strings old = record { strings = []; are = refl; lines = all_none; added = sym (append-nil old) }

-- a string without a newline
pub string_added : (string old new : Text) → HasNoNewline string → new ≡ old ++ (string ++ newline ∷ []) → AddsEach (string_expression string ∷ []) old new
string_added string old new line added = record { strings = string ∷ []; are = refl; lines = all_cons string [] line all_none; added = added }

-- more strings after others
more_strings : (es fs : List Expression) (old mid new : Text) → AddsEach es old mid → AddsEach fs mid new → AddsEach (es ++ fs) old new
more_strings es fs old mid new a b = record {
  strings = a.strings ++ b.strings;
  are = ap (λ l. l ++ fs) a.are ∙ ap (λ l. map string_expression a.strings ++ l) b.are ∙ sym (map-append string_expression a.strings b.strings);
  lines = All-append HasNoNewline a.strings b.strings a.lines b.lines;
  added = b.added ∙ ap (λ l. l ++ terminated b.strings) a.added ∙ append_assoc old (terminated a.strings) (terminated b.strings)
      ∙ ap (λ l. old ++ l) (sym (terminated-append a.strings b.strings));
}

module _ {T : Type 0} (f : T → Expression) (ts : List T) (i : ℕ) (d : T) where
  pub next_string : (old mid new : Text) → i < length ts → AddsEach (map f (take i ts)) old mid → AddsEach (f (get_or ts i d) ∷ []) mid new → AddsEach (map f (take (i + 1) ts)) old new
  next_string old mid new lt a b = subst (λ l. AddsEach l old new) (sym (one_more f ts i d lt)) (more_strings (map f (take i ts)) (f (get_or ts i d) ∷ []) old mid new a b)

-- no byte is a newline where none is found
pub no_newline : (text : Text) (r : Option ℕ) → is_some r ≡ false → IsFirstByte (is_byte newline) text r → HasNoNewline text
no_newline text None is none = All-from_get_or (λ b. b ≢ newline) text 0 (λ k lt same. none k (omega arith) lt (eq-eqb _ _ same))
no_newline text (Some k) is found = absurd (false≢true (sym is))
