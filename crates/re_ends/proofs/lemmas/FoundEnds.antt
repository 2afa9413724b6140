-- The greatest ends of the parts that begin at each place.
use Rattle.{re_ends.proofs.Prelude.{ℕ, ◌<◌, inl, inr, ◌⊎◌, Bool, false, List, [], ◌∷◌, ◌++◌, length, arith, ◌↔◌, Text, Expression, Holds, IsFound, MatchesPast, FoundPast, AddsEnds}, std.specs.List.Any, re_trees.proofs.lemmas.{Decisions.Any-first, SomeOfJoined.{Any-single, Any-left, Any-right, Any-append-cases}}}

-- what reaches past the same numbers adds the same ends
pub adds_alike : (P Q : ℕ → ℕ → Type 0) (line : Text) (old new : List ℕ) → ((i m : ℕ) → i < length line → P i m ↔ Q i m) → AddsEnds P line old new → AddsEnds Q line old new
adds_alike P Q _ _ _ alike adds = (
  adds.0,
  λ i m lt. (
    λ h. elim ((adds.1 i m lt).0 h) [ inl o ↦ inl o | inr p ↦ inr ((alike i m lt).0 p) ],
    λ h. (adds.1 i m lt).1 (elim h [ inl o ↦ inl o | inr q ↦ inr ((alike i m lt).1 q) ]),
  ),
)

-- the matched stretches of an expression are what is found of it
pub matched_found : (e : Expression) (line : Text) (i m : ℕ) → MatchesPast e line i m ↔ FoundPast (e ∷ []) line false i m
matched_found e line i m = (
  λ (j, past, lt, on, h). (j, past, record { begins = omega arith; not_empty = lt; on_line = on; is_whole = tt; holds = Any-first (λ e. Holds line e i j) e [] h }),
  λ (j, past, f). (j, past, f.not_empty, f.on_line, Any-single (λ e. Holds line e i j) e f.holds),
)

-- the ends of two lists of expressions are those of both together
pub both_past : (es fs : List Expression) (line : Text) (whole : Bool) (i m : ℕ) → (FoundPast es line whole i m ⊎ FoundPast fs line whole i m) ↔ FoundPast (es ++ fs) line whole i m
both_past es fs line whole i m = (to, λ (j, past, f). back j past f)
  where
    of : {ds : List Expression} (gs : List Expression) {j : ℕ} → IsFound ds line whole 0 i j → Any (λ e. Holds line e i j) gs → IsFound gs line whole 0 i j
    of gs f h = record { begins = f.begins; not_empty = f.not_empty; on_line = f.on_line; is_whole = f.is_whole; holds = h }

    to : FoundPast es line whole i m ⊎ FoundPast fs line whole i m → FoundPast (es ++ fs) line whole i m
    to (inl (j, past, f)) = (j, past, of (es ++ fs) f (Any-left (λ e. Holds line e i j) es fs f.holds))
    to (inr (j, past, f)) = (j, past, of (es ++ fs) f (Any-right (λ e. Holds line e i j) es fs f.holds))

    back : (j : ℕ) → m < j → IsFound (es ++ fs) line whole 0 i j → FoundPast es line whole i m ⊎ FoundPast fs line whole i m
    back j past f = elim (Any-append-cases (λ e. Holds line e i j) es fs f.holds) [ inl h ↦ inl (j, past, of es f h) | inr h ↦ inr (j, past, of fs f h) ]
