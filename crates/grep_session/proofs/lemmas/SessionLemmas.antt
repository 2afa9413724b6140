-- How lists of a session's inputs change.
use Rattle.{grep_session.proofs.Prelude.{◌≡◌, ℕ, suc, ◌+◌, ◌<◌, List, [], ◌∷◌, ◌++◌, length, map, take, drop, sym, ap, ◌∙◌, All, get_or, add-one, arith, take-suc, Watched, All-push, map-append, length-map, remove, splice, drop-map}, std.{proofs.lemmas.List.get_or-map, specs.List.take-map}}

-- the inputs that contracts see
pub inputs_are : {a b : Watched} → a ≡ b → a.inputs ≡ b.inputs
inputs_are same = rw same

-- f of a list after an element was removed
pub map-remove : {X Y : Type 0} (f : X → Y) (xs new : List X) (k : ℕ) → new ≡ remove xs k → map f new ≡ remove (map f xs) k
map-remove f xs new k e = ap (map f) e ∙ map-append f (take k xs) (drop (suc k) xs) ∙ (λ i. sym (take-map f k xs) i ++ sym (drop-map f (suc k) xs) i)

-- f of a list after a part of it was replaced
pub map-splice : {X Y : Type 0} (f : X → Y) (xs new ys : List X) (i j : ℕ) → new ≡ splice xs i j ys → map f new ≡ splice (map f xs) i j (map f ys)
map-splice f xs new ys i j e =
    ap (map f) e ∙ map-append f (take i xs) (ys ++ drop j xs) ∙ (λ n. sym (take-map f i xs) n ++ map-append f ys (drop j xs) n)
    ∙ ap (λ l. take i (map f xs) ++ (map f ys ++ l)) (sym (drop-map f j xs))

-- if P fails at one element, it does not hold of all
pub fails_at : {X Y : Type 0} (P : Y → Type 0) (f : X → Y) (xs : List X) (i : ℕ) (x : X) → i < length xs → x ≡ get_or xs i x → (P (f x) → ⊥) → All P (map f xs) → ⊥
fails_at P f xs i x within is fails all = fails (rw (get_or-map f xs i x (f x) within ∙ ap f (sym is)) at (all i (f x) (omega (arith, length-map xs f))))

-- P holds of the first elements, and of one more
pub All-next : {X : Type 0} (P : X → Type 0) (xs : List X) (i : ℕ) (x : X) → i < length xs → x ≡ get_or xs i x → All P (take i xs) → P x → All P (take (i + 1) xs)
All-next P xs i x h is all one =
    let next : take (i + 1) xs ≡ take i xs ++ x ∷ [] = cc (add-one i, take-suc xs i x h) in
    rw next (All-push P (take i xs) x all one)
