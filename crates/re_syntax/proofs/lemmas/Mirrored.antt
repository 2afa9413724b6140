-- Lists of open groups and levels, from the end of one and the front of the other.
use Rattle.re_syntax.{proofs.Prelude.{◌≡◌, List, [], ◌∷◌, ◌++◌, length, length-append, sym, ap, ◌∙◌, refl, arith}, specs.Working.Mirrors.{Mirrors, neither, both}}

-- a list with a last element is not empty
pub no_last : {A : Type 0} (xs : List A) (x : A) → [] ≡ xs ++ (x ∷ []) → ⊥
no_last [] x e = cc
no_last (y ∷ xs) x e = cc

first_same : {A : Type 0} {x y : A} {xs ys : List A} → x ∷ xs ≡ y ∷ ys → x ≡ y
first_same e = cc

rest_same : {A : Type 0} {x y : A} {xs ys : List A} → x ∷ xs ≡ y ∷ ys → xs ≡ ys
rest_same e = cc

two_first : {A : Type 0} {x y : A} {xs ys : List A} → x ≡ y → xs ≡ ys → x ∷ xs ≡ y ∷ ys
two_first e f = cc

same_last : {A : Type 0} (xs ys : List A) {x y : A} → xs ++ (x ∷ []) ≡ ys ++ (y ∷ []) → (xs ≡ ys) × (x ≡ y)
same_last [] [] e = (refl, first_same e)
same_last [] (z ∷ ys) {y} e = absurd (no_last ys y (rest_same e))
same_last (z ∷ xs) [] {x} e = absurd (no_last xs x (sym (rest_same e)))
same_last (z ∷ xs) (w ∷ ys) e =
    let more = same_last xs ys (rest_same e) in
    (two_first (first_same e) more.0, more.1)

-- the partner of the last element
pub record Partner {A B : Type 0} (R : List A → A → B → Type 0) (xs : List A) (x : A) (ys : List B) : Type 0 where
  pub first : B
  pub others : List B
  pub are : ys ≡ first ∷ others
  pub is : R xs x first
  pub mirrors : Mirrors R xs others

module _ {A B : Type 0} {R : List A → A → B → Type 0} where
  pub partner : {all xs : List A} {ys : List B} {x : A} → Mirrors R all ys → all ≡ xs ++ x ∷ [] → Partner R xs x ys
  partner {xs = xs} {x} neither e = absurd (no_last xs x e)
  partner {xs = xs} (both {xs = zs} {ys = ys} {y = y} z m r f) e =
      let same = same_last zs xs (sym f ∙ e) in
      record { first = y; others = ys; are = refl; is = rw same.0 at (rw same.1 at r); mirrors = rw same.0 at m }

  pub none_mirrors : {all : List A} {ys : List B} → Mirrors R all ys → all ≡ [] → ys ≡ []
  none_mirrors neither e = refl
  none_mirrors (both {xs = xs} x m r f) e = absurd (no_last xs x (sym e ∙ f))

  pub as_many : {all : List A} {ys : List B} → Mirrors R all ys → length all ≡ length ys
  as_many neither = refl
  as_many (both {xs = xs} x m r e) = ap length e ∙ length-append xs (x ∷ []) ∙ omega (arith, as_many m)
