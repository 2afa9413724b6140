-- Three lists of which a relation holds place by place.
use Rattle.grep_live.proofs.Prelude.{◌≡◌, ℕ, zero, suc, ◌<◌, List, [], ◌∷◌, ◌++◌, length, map, get_or, refl, ap, arith, set, remove, AllZip, AllThree}

module _ {A B C : Type 0} (R : A → B → C → Type 0) where
  pub three-append : (xs : List A) (ys : List B) (zs : List C) (x : A) (y : B) (z : C) → AllThree R xs ys zs → R x y z → AllThree R (xs ++ x ∷ []) (ys ++ y ∷ []) (zs ++ z ∷ [])
  three-append [] [] [] x y z h r = (r, tt)
  three-append [] [] (c ∷ zs) x y z h r = absurd h
  three-append [] (b ∷ ys) zs x y z h r = absurd h
  three-append (a ∷ xs) [] zs x y z h r = absurd h
  three-append (a ∷ xs) (b ∷ ys) [] x y z h r = absurd h
  three-append (a ∷ xs) (b ∷ ys) (c ∷ zs) x y z h r = (h.0, three-append xs ys zs x y z h.1 r)

  pub three-remove : (xs : List A) (ys : List B) (zs : List C) (k : ℕ) → AllThree R xs ys zs → AllThree R (remove xs k) (remove ys k) (remove zs k)
  three-remove [] [] [] zero h = tt
  three-remove [] [] [] (suc k) h = tt
  three-remove [] [] (c ∷ zs) k h = absurd h
  three-remove [] (b ∷ ys) zs k h = absurd h
  three-remove (a ∷ xs) [] zs k h = absurd h
  three-remove (a ∷ xs) (b ∷ ys) [] k h = absurd h
  three-remove (a ∷ xs) (b ∷ ys) (c ∷ zs) zero h = h.1
  three-remove (a ∷ xs) (b ∷ ys) (c ∷ zs) (suc k) h = (h.0, three-remove xs ys zs k h.1)

  -- the elements at one place change, so that the relation still holds there
  pub three-set : (xs : List A) (ys : List B) (zs : List C) (k : ℕ) (x dx : A) (y dy : B) → ((z : C) → R (get_or xs k dx) (get_or ys k dy) z → R x y z) → AllThree R xs ys zs → AllThree R (set xs k x) (set ys k y) zs
  three-set [] [] [] k x dx y dy step h = tt
  three-set [] [] (c ∷ zs) k x dx y dy step h = absurd h
  three-set [] (b ∷ ys) zs k x dx y dy step h = absurd h
  three-set (a ∷ xs) [] zs k x dx y dy step h = absurd h
  three-set (a ∷ xs) (b ∷ ys) [] k x dx y dy step h = absurd h
  three-set (a ∷ xs) (b ∷ ys) (c ∷ zs) zero x dx y dy step h = (step c h.0, h.1)
  three-set (a ∷ xs) (b ∷ ys) (c ∷ zs) (suc k) x dx y dy step h = (h.0, three-set xs ys zs k x dx y dy step h.1)

-- another relation holds, of other elements of the second list
pub three-map : {A B C : Type 0} (R Q : A → B → C → Type 0) (Z : A → B → Type 0) (f : B → B) → ((x : A) (y : B) (z : C) → Z x y → R x y z → Q x (f y) z) →
    (xs : List A) (ys : List B) (zs : List C) → AllZip Z xs ys → AllThree R xs ys zs → AllThree Q xs (map f ys) zs
three-map R Q Z f step [] [] [] fit h = tt
three-map R Q Z f step [] [] (c ∷ zs) fit h = absurd h
three-map R Q Z f step [] (b ∷ ys) zs fit h = absurd fit
three-map R Q Z f step (a ∷ xs) [] zs fit h = absurd fit
three-map R Q Z f step (a ∷ xs) (b ∷ ys) [] fit h = absurd h
three-map R Q Z f step (a ∷ xs) (b ∷ ys) (c ∷ zs) fit h = (step a b c fit.0 h.0, three-map R Q Z f step xs ys zs fit.1 h.1)

pub three-weaker : {A B C : Type 0} (R Q : A → B → C → Type 0) → ((x : A) (y : B) (z : C) → R x y z → Q x y z) → (xs : List A) (ys : List B) (zs : List C) → AllThree R xs ys zs → AllThree Q xs ys zs
three-weaker R Q step [] [] [] h = tt
three-weaker R Q step [] [] (c ∷ zs) h = absurd h
three-weaker R Q step [] (b ∷ ys) zs h = absurd h
three-weaker R Q step (a ∷ xs) [] zs h = absurd h
three-weaker R Q step (a ∷ xs) (b ∷ ys) [] h = absurd h
three-weaker R Q step (a ∷ xs) (b ∷ ys) (c ∷ zs) h = (step a b c h.0, three-weaker R Q step xs ys zs h.1)

module _ {A B C : Type 0} (R : A → B → C → Type 0) where
  pub three-length : (xs : List A) (ys : List B) (zs : List C) → AllThree R xs ys zs → (length xs ≡ length ys) × (length ys ≡ length zs)
  three-length [] [] [] h = (refl, refl)
  three-length [] [] (c ∷ zs) h = absurd h
  three-length [] (b ∷ ys) zs h = absurd h
  three-length (a ∷ xs) [] zs h = absurd h
  three-length (a ∷ xs) (b ∷ ys) [] h = absurd h
  three-length (a ∷ xs) (b ∷ ys) (c ∷ zs) h = let more = three-length xs ys zs h.1 in (ap suc more.0, ap suc more.1)

  pub three-at : (xs : List A) (ys : List B) (zs : List C) (k : ℕ) (x : A) (y : B) (z : C) → k < length xs → AllThree R xs ys zs → R (get_or xs k x) (get_or ys k y) (get_or zs k z)
  three-at [] ys zs k x y z l h = absurd (omega arith)
  three-at (a ∷ xs) [] zs k x y z l h = absurd h
  three-at (a ∷ xs) (b ∷ ys) [] k x y z l h = absurd h
  three-at (a ∷ xs) (b ∷ ys) (c ∷ zs) zero x y z l h = h.0
  three-at (a ∷ xs) (b ∷ ys) (c ∷ zs) (suc k) x y z l h = three-at xs ys zs k x y z (omega arith) h.1
