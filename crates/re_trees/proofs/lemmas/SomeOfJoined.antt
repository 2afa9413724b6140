-- What holds of some element of two lists joined.
use Rattle.re_trees.proofs.{Prelude.{List, [], ◌∷◌, ◌++◌, ◌⊎◌, inl, inr, Any}, lemmas.Decisions.{Any-first, Any-later, Any-cases, Any-none}}

-- P holds of an element of two lists where it holds of one of the first
pub Any-left : {A : Type 0} (P : A → Type 0) (xs ys : List A) → Any P xs → Any P (xs ++ ys)
Any-left P [] ys h = absurd (Any-none P h)
Any-left P (x ∷ xs) ys h = elim (Any-cases P x xs h) [ inl p ↦ Any-first P x (xs ++ ys) p | inr l ↦ Any-later P x (xs ++ ys) (Any-left P xs ys l) ]

-- P holds of an element of two lists where it holds of one of the second
pub Any-right : {A : Type 0} (P : A → Type 0) (xs ys : List A) → Any P ys → Any P (xs ++ ys)
Any-right P [] ys h = h
Any-right P (x ∷ xs) ys h = Any-later P x (xs ++ ys) (Any-right P xs ys h)

-- an element of two lists is one of the first or of the second
pub Any-append-cases : {A : Type 0} (P : A → Type 0) (xs ys : List A) → Any P (xs ++ ys) → Any P xs ⊎ Any P ys
Any-append-cases P [] ys h = inr h
Any-append-cases P (x ∷ xs) ys h = elim (Any-cases P x (xs ++ ys) h) [ inl p ↦ inl (Any-first P x xs p) | inr l ↦ elim (Any-append-cases P xs ys l) [ inl a ↦ inl (Any-later P x xs a) | inr b ↦ inr b ] ]

-- where P holds of some element of a list of one, it holds of that
pub Any-single : {A : Type 0} (P : A → Type 0) (x : A) → Any P (x ∷ []) → P x
Any-single P x h = elim (Any-cases P x [] h) [ inl p ↦ p | inr none ↦ absurd (Any-none P none) ]

-- where P holds of no element, and not of the next, it holds of none with that
pub none_more : {A : Type 0} (P : A → Type 0) (xs : List A) (x : A) → (Any P xs → ⊥) → (P x → ⊥) → Any P (xs ++ x ∷ []) → ⊥
none_more P xs x none not_here h = elim (Any-append-cases P xs (x ∷ []) h) [ inl a ↦ none a | inr b ↦ not_here (Any-single P x b) ]
