-- Tokens of fixed strings, which have no fault, and what they spell.
use Rattle.re_syntax.{proofs.{Prelude.{◌≡◌, Bool, [], ◌∷◌, map, refl, arith, Text, byte, sequence, Fixed, IsSpelled}, lemmas.{BracketsUnique.{heads, tails}, CutsUnique.{IsExact, SameToken}, SpelledParts.{ItemsRead, single, none, item, last, spells}}}, specs.{declared.tokens.ItemPlace.ItemPlace, Tokens.{Token, FixedToken, one_byte}}}

token-unique : {g : Bool} {p : ItemPlace} {t s u v : Text} {j k : Token} → FixedToken g p t u j → FixedToken g p s v k → t ≡ s → SameToken j k u v
token-unique (one_byte b) (one_byte c) e = record { tokens = rw (heads e); rests = tails e }

not_end : {g : Bool} {p : ItemPlace} {t u : Text} {k : Token} → FixedToken g p t u k → ¬ (t ≡ [])
not_end (one_byte b) e = cc

pub fixed_exact : IsExact Fixed
fixed_exact = record {
  token = λ g p t u v j k x y. token-unique x y refl;
  fault = λ g p t u v j k x y. absurd x;
  either = λ g p t u v k j x y. y;
  token_not_end = λ g p u k x. not_end x refl;
  fault_not_end = λ g p v j x. x;
}

bytes_read : (t : Text) {p : ItemPlace} {g : Bool} → ItemsRead Fixed g p 0 t [] (map byte t)
bytes_read [] = none
bytes_read (b ∷ t) = item (single (one_byte b)) (bytes_read t)

-- a fixed string spells the sequence of its bytes
pub fixed_spelled : (t : Text) → IsSpelled Fixed t (sequence (map byte t))
fixed_spelled t = spells (last (bytes_read t)) (omega arith)
