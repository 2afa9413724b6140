-- Whether a fact holds is decided, where it is made from decided facts: by connectives, over a
-- list, or over the numbers below a bound.
use Rattle.re_trees.proofs.Prelude.{◌≡◌, ℕ, zero, suc, ◌<◌, ◌≤◌, ◌⊎◌, inl, inr, Bool, true, false, IsTrue, List, [], ◌∷◌, length, slice_index_or, Any, MatchBool, Option, Some, None, IfSome, refl, arith, dec_le, ℕ_discrete, map_dec, false≢true, none-some, same_Some}

-- whether a decided fact fails to hold is decided
pub dec_not : {A : Type 0} → Dec A → Dec (A → ⊥)
dec_not (yes a) = no (λ refuted. refuted a)
dec_not (no a) = yes a

-- whether both of two decided facts hold is decided
pub dec_both : {A B : Type 0} → Dec A → Dec B → Dec (A × B)
dec_both (yes a) (yes b) = yes (a, b)
dec_both (yes a) (no b) = no (λ both. b both.1)
dec_both (no a) b = no (λ both. a both.0)

-- whether one of two decided facts holds is decided
pub dec_either : {A B : Type 0} → Dec A → Dec B → Dec (A ⊎ B)
dec_either (yes a) b = yes (inl a)
dec_either (no a) (yes b) = yes (inr b)
dec_either (no a) (no b) = no (elim [ inl x ↦ a x | inr y ↦ b y ])

-- whether a test is true is decided
pub dec_IsTrue : (b : Bool) → Dec (IsTrue b)
dec_IsTrue true = yes refl
dec_IsTrue false = no false≢true

-- whether the one of two decided facts that a test picks holds is decided
pub dec_MatchBool : {A B : Type 0} (b : Bool) → Dec A → Dec B → Dec (MatchBool b A B)
dec_MatchBool true a b = a
dec_MatchBool false a b = b

-- whether the option is empty or P holds of its value is decided
pub dec_IfSome : {A : Type 0} (P : A → Type 0) → ((x : A) → Dec (P x)) → (o : Option A) → Dec (IfSome o P)
dec_IfSome P d None = yes tt
dec_IfSome P d (Some x) = d x

-- whether the option has a value and P holds of it is decided
pub dec_holds_inside : {A : Type 0} (P : A → Type 0) → ((x : A) → Dec (P x)) → (o : Option A) → Dec ((x : A) × (o ≡ Some x) × P x)
dec_holds_inside P d None = no (λ h. none-some h.0 h.1)
dec_holds_inside P d (Some x) = map_dec (λ p. (x, refl, p)) (λ h. rw (same_Some x h.0 h.1) h.2) (d x)

-- P holds of an element of a list where it holds of the first
pub Any-first : {A : Type 0} (P : A → Type 0) (x : A) (xs : List A) → P x → Any P (x ∷ xs)
Any-first P x xs p = (0, x, omega arith, refl, p)

-- P holds of an element of a list where it holds of one after the first
pub Any-later : {A : Type 0} (P : A → Type 0) (x : A) (xs : List A) → Any P xs → Any P (x ∷ xs)
Any-later P x xs h = (suc h.0, h.1, omega arith, h.3, h.4)

-- an element for which P holds is the first or one after it
pub Any-cases : {A : Type 0} (P : A → Type 0) (x : A) (xs : List A) → Any P (x ∷ xs) → P x ⊎ Any P xs
Any-cases {A} P x xs h = at_place h.0 h.1 h.2 h.3 h.4
  where
    at_place : (k : ℕ) (y : A) → k < length (x ∷ xs) → slice_index_or (x ∷ xs) k y ≡ y → P y → P x ⊎ Any P xs
    at_place zero y below same p = inl (rw same p)
    at_place (suc k) y below same p = inr (k, y, omega arith, same, p)

-- an empty list has no element
pub Any-none : {A : Type 0} (P : A → Type 0) → Any P [] → ⊥
Any-none P h = omega arith

-- whether P holds of some element is decided
pub dec_any : {A : Type 0} (P : A → Type 0) → ((x : A) → Dec (P x)) → (xs : List A) → Dec (Any P xs)
dec_any P d [] = no (Any-none P)
dec_any P d (x ∷ xs) = map_dec (elim [ inl p ↦ Any-first P x xs p | inr h ↦ Any-later P x xs h ]) (Any-cases P x xs) (dec_either (d x) (dec_any P d xs))

-- whether P holds of some number below n is decided
pub dec_below : (P : ℕ → Type 0) → ((k : ℕ) → Dec (P k)) → (n : ℕ) → Dec ((k : ℕ) × (k < n) × P k)
dec_below P d zero = no (λ h. omega arith)
dec_below P d (suc n) = join (d n) (dec_below P d n)
  where
    join : Dec (P n) → Dec ((k : ℕ) × (k < n) × P k) → Dec ((k : ℕ) × (k < suc n) × P k)
    join (yes p) lower = yes (n, omega arith, p)
    join (no p) (yes l) = yes (l.0, omega arith, l.2)
    join (no p) (no l) = no (λ h. elim (ℕ_discrete h.0 n) [ yes e ↦ p (rw e at h.2) | no e ↦ l (h.0, omega arith, h.2) ])

-- whether P holds of some number is decided, where it can hold only below n
pub dec_bounded : (P : ℕ → Type 0) → ((k : ℕ) → Dec (P k)) → (n : ℕ) → ((k : ℕ) → P k → k < n) → Dec ((k : ℕ) × P k)
dec_bounded P d n bound = map_dec (λ h. (h.0, h.2)) (λ h. (h.0, bound h.0 h.1, h.1)) (dec_below P d n)

-- the least number for which P holds, or none below n
pub least_below : (P : ℕ → Type 0) → ((k : ℕ) → Dec (P k)) → (n : ℕ) → ((k : ℕ) × P k × ((l : ℕ) → P l → k ≤ l)) ⊎ ((k : ℕ) → k < n → P k → ⊥)
least_below P d zero = inr (λ k below p. absurd (omega arith))
least_below P d (suc n) =
    elim (least_below P d n) [
      | inl found ↦ inl found
      | inr none ↦ elim (d n) [
        | yes p ↦ inl (n, p, (λ l q. elim (dec_le n l) [ yes h ↦ h | no h ↦ absurd (none l (omega arith) q) ]))
        | no p ↦ inr (λ k below q. elim (ℕ_discrete k n) [ yes e ↦ p (rw e at q) | no e ↦ none k (omega arith) q ])
      ]
    ]

-- the greatest number for which P holds, if it holds for one and only below n
pub greatest_below : (P : ℕ → Type 0) → ((k : ℕ) → Dec (P k)) → (n : ℕ) → ((k : ℕ) → P k → k < n) → (k : ℕ) × P k → (k : ℕ) × P k × ((l : ℕ) → P l → l ≤ k)
greatest_below P d zero bound some = let below = bound some.0 some.1 in absurd (omega arith)
greatest_below P d (suc n) bound some =
    elim (d n) [
      | yes p ↦ (n, p, (λ l q. omega (arith, bound l q)))
      | no p ↦ greatest_below P d n (λ k q. elim (ℕ_discrete k n) [ yes e ↦ absurd (p (rw e at q)) | no e ↦ omega (arith, bound k q) ]) some
    ]
