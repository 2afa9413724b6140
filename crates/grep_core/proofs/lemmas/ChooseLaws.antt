-- Lists made from the elements that have a property: there is one, and what more elements add to
-- it.
use Rattle.grep_core.proofs.Prelude.{◌≡◌, List, [], ◌∷◌, ◌++◌, inl, inr, refl, sym, ap, ◌∙◌, append_assoc, append-nil, IfHolds, EachGives, Chosen}

-- two values that are both a third
pub same_value : {A : Type 0} {a b c : A} → a ≡ c → b ≡ c → a ≡ b
same_value p q = p ∙ sym q

-- two results of one question are in the same case
pub IfHolds-both : {P A B C D E : Type 0} → IfHolds P A B → IfHolds P C D → (A → C → E) → (B → D → E) → E
IfHolds-both (inl a) (inl b) f g = f a.1 b.1
IfHolds-both (inl a) (inr b) f g = absurd (b.0 a.0)
IfHolds-both (inr a) (inl b) f g = absurd (a.0 b.0)
IfHolds-both (inr a) (inr b) f g = g a.1 b.1

-- of two lists the one that is asked for, where the question is decided
pub IfHolds-exist : {P B : Type 0} (a b : List B) → Dec P → (ys : List B) × IfHolds P (ys ≡ a) (ys ≡ b)
IfHolds-exist a b (yes p) = (a, inl (p, refl))
IfHolds-exist a b (no p) = (b, inr (p, refl))

-- where each element is given at most one list, all of them are given at most one
pub EachGives-determined : {A B : Type 0} (R : A → List B → Type 0) → ((x : A) (ys zs : List B) → R x ys → R x zs → ys ≡ zs) →
    (xs : List A) (ys zs : List B) → EachGives R xs ys → EachGives R xs zs → ys ≡ zs
EachGives-determined R _ [] _ _ a b = same_value a b
EachGives-determined R once (x ∷ xs) _ _ a b =
    let front = once x a.0 b.0 a.2 b.2 in
    let rest = EachGives-determined R once xs a.1 b.1 a.3 b.3 in
    a.4 ∙ (λ i. front i ++ rest i) ∙ sym b.4

-- there is at most one list of the chosen elements
pub Chosen-determined : {A : Type 0} (P : A → Type 0) (xs ys zs : List A) → Chosen P xs ys → Chosen P xs zs → ys ≡ zs
Chosen-determined P xs ys zs a b = EachGives-determined _ (λ x us vs c d. IfHolds-both c d same_value same_value) xs ys zs a b

-- where each element is given a list, all of them are given one
pub EachGives-exist : {A B : Type 0} (R : A → List B → Type 0) → ((x : A) → (ys : List B) × R x ys) → (xs : List A) → (ys : List B) × EachGives R xs ys
EachGives-exist R f [] = ([], refl)
EachGives-exist R f (x ∷ xs) =
    let first = f x in
    let rest = EachGives-exist R f xs in
    (first.0 ++ rest.0, (first.0, rest.0, first.1, rest.1, refl))

-- where P is decided, there is a list of the chosen elements
pub Chosen-exist : {A : Type 0} (P : A → Type 0) → ((x : A) → Dec (P x)) → (xs : List A) → (ys : List A) × Chosen P xs ys
Chosen-exist P d xs = EachGives-exist _ (λ x. IfHolds-exist (x ∷ []) [] (d x)) xs

-- the lists that two lists give, joined
pub EachGives-append : {A B : Type 0} (R : A → List B → Type 0) (xs ys : List A) (us vs : List B) → EachGives R xs us → EachGives R ys vs → EachGives R (xs ++ ys) (us ++ vs)
EachGives-append R [] ys us vs h k = rw (ap (λ t. t ++ vs) h) k
EachGives-append R (x ∷ xs) ys _ vs h k = (h.0, h.1 ++ vs, h.2, EachGives-append R xs ys h.1 vs h.3 k, ap (λ t. t ++ vs) h.4 ∙ append_assoc h.0 h.1 vs)

-- what one element gives
pub EachGives-one : {A B : Type 0} (R : A → List B → Type 0) (x : A) (ys : List B) → R x ys → EachGives R (x ∷ []) ys
EachGives-one R x ys r = (ys, [], r, refl, sym (append-nil ys))

-- what one more element gives is added at the end
pub EachGives-end : {A B : Type 0} (R : A → List B → Type 0) (xs : List A) (x : A) (ys zs : List B) → EachGives R xs ys → R x zs → EachGives R (xs ++ x ∷ []) (ys ++ zs)
EachGives-end R xs x ys zs h r = EachGives-append R xs (x ∷ []) ys zs h (EachGives-one R x zs r)

-- one more element, which is chosen
pub Chosen-end : {A : Type 0} (P : A → Type 0) (xs : List A) (x : A) (ys : List A) → Chosen P xs ys → P x → Chosen P (xs ++ x ∷ []) (ys ++ x ∷ [])
Chosen-end P xs x ys c p = EachGives-end _ xs x ys _ c (inl (p, refl))

-- one more element, which is not chosen
pub Chosen-passed : {A : Type 0} (P : A → Type 0) (xs : List A) (x : A) (ys : List A) → Chosen P xs ys → (P x → ⊥) → Chosen P (xs ++ x ∷ []) ys
Chosen-passed P xs x ys c n =
    rw (append-nil ys) at (EachGives-end _ xs x ys [] c (inr (n, refl)))

-- where no element gives anything, all together give nothing
pub EachGives-nothing : {A B : Type 0} (R : A → List B → Type 0) → ((x : A) (ys : List B) → R x ys → ys ≡ []) → (xs : List A) (ys : List B) → EachGives R xs ys → ys ≡ []
EachGives-nothing R none [] _ h = h
EachGives-nothing R none (x ∷ xs) _ h = let front = none x h.0 h.2 in let rest = EachGives-nothing R none xs h.1 h.3 in h.4 ∙ (λ i. front i ++ rest i)
