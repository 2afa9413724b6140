-- Newlines counted in vectors: a 1 for each, and the sum of those is how many there are.
use Rattle.{grep_io.proofs.Prelude.{◌≡◌, ℕ, zero, suc, ◌+◌, ◌-◌, ◌≤◌, Bool, List, [], ◌∷◌, map, length, length-append, take, drop, replicate, eqb, ◌==◌, if◌then◌else◌, ap, ◌∙◌, refl, arith, drop-cons, Each1, zip2, sel_l, sum_l, is_byte, places_between}, memchr.{specs.Find.places_from, proofs.lemmas.PlaceLemmas.places_from-append}}

-- what `select` makes of a comparison with one byte
pub ones_at : (y n : ℕ) (xs : List ℕ) → length xs ≡ n → sel_l {A = ℕ} (zip2 eqb xs (replicate n y)) (replicate n 1) (replicate n 0) ≡ map (λ x. if x == y then 1 else 0) xs
ones_at y zero [] e = refl
ones_at y zero (x ∷ xs) e = absurd (omega arith)
ones_at y (suc n) [] e = absurd (omega arith)
ones_at y (suc n) (x ∷ xs) e = rw (ones_at y n xs (omega arith))

pub sum_of_ones : (y : ℕ) (hay : List ℕ) (i n : ℕ) → i + n ≤ length hay → sum_l (map (λ x. if x == y then 1 else 0) (take n (drop i hay))) ≡ length (places_from (is_byte y) hay i n)
unfolding places_from
sum_of_ones y hay i zero e = refl
sum_of_ones y hay i (suc n) e =
    let front = ap (λ l. sum_l (map (λ x. if x == y then 1 else 0) (take (suc n) l))) (drop-cons hay i 0 (omega arith)) in
    let step : suc i ≡ i + 1 = omega arith in
    let next = ap (λ k. sum_l (map (λ x. if x == y then 1 else 0) (take n (drop k hay)))) step ∙ sum_of_ones y hay (i + 1) n (omega arith) in
    grind (arith, front, next)

pub small_ones : (y : ℕ) (xs : List ℕ) → Each1 (λ a. a ≤ 1) (map (λ x. if x == y then 1 else 0) xs)
small_ones y [] = tt
small_ones y (x ∷ xs) = (grind arith, small_ones y xs)

-- the places up to one and those after it
pub places_joined : (test : ℕ → Bool) (hay : List ℕ) (i j k : ℕ) → i ≤ j → j ≤ k → length (places_between test hay i k) ≡ length (places_between test hay i j) + length (places_between test hay j k)
places_joined test hay i j k le le' =
    let sum : k - i ≡ (j - i) + (k - j) = omega arith in
    let at : i + (j - i) ≡ j = omega arith in
    cc (places_from-append test hay i (j - i) (k - j), length-append (places_between test hay i j) (places_between test hay j k))
