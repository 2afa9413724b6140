-- What a test of the bytes that come next says of the text.
use Rattle.re_syntax.proofs.Prelude.{◌≡◌, ℕ, ◌+◌, ◌-◌, Bool, true, false, nat_eq, ◌++◌, length, take, drop, ap, ◌∙◌, both_ways, Decides-eqb, take_rest, drop-drop, starts_is, starts_with, Text, Begins}

-- bytes that come next, and what is left after them
pub begins-drop : (text bytes : Text) (at : ℕ) {r : Bool} → r ≡ starts_with nat_eq (take (length text - at) (drop at text)) bytes → r ≡ true →
    drop at text ≡ bytes ++ drop (at + length bytes) text
begins-drop text bytes at {r} e h =
    (starts_is Decides-eqb (drop at text) bytes r (cc (take_rest text at))).0 h
    ∙ ap (λ t. bytes ++ t) (drop-drop (length bytes) at text)

-- bytes that do not come next
pub begins_not : (text bytes : Text) (at : ℕ) {r : Bool} → r ≡ starts_with nat_eq (take (length text - at) (drop at text)) bytes → r ≡ false →
    ¬ Begins bytes (drop at text)
begins_not text bytes at {r} e h (rest, f) =
    both_ways r h ((starts_is Decides-eqb (drop at text) bytes r (cc (take_rest text at))).1 rest f)
