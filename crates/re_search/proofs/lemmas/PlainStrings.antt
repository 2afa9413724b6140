-- Trees that are one string.
use Rattle.re_search.proofs.Prelude.{◌≡◌, ℕ, ◌+◌, ◌<◌, List, [], ◌∷◌, ◌++◌, length, map, take, get_or, sym, ap, ◌∙◌, take-suc, add-one, map-append, Text, Expression, byte}

-- what the first elements are, and the next one
pub one_more : {T : Type 0} (f : T → Expression) (ts : List T) (i : ℕ) (d : T) → i < length ts → map f (take (i + 1) ts) ≡ map f (take i ts) ++ f (get_or ts i d) ∷ []
one_more f ts i d lt = rw (add-one i) (ap (map f) (take-suc ts i d lt) ∙ map-append f (take i ts) (get_or ts i d ∷ []))

-- one byte more
pub byte_more : {T : Type 0} (f : T → Expression) (ts : List T) (i : ℕ) (d : T) (text : Text) (b : ℕ) → i < length ts → map f (take i ts) ≡ map byte text → f (get_or ts i d) ≡ byte b → map f (take (i + 1) ts) ≡ map byte (text ++ b ∷ [])
byte_more f ts i d text b lt before is =
    one_more f ts i d lt ∙ ap (λ l. l ++ f (get_or ts i d) ∷ []) before ∙ ap (λ e. map byte text ++ e ∷ []) is ∙ sym (map-append byte text (b ∷ []))
