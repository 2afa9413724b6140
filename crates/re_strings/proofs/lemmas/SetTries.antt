-- Children of a node, by a search for their byte.
use Rattle.re_strings.proofs.Prelude.{◌≡◌, ℕ, zero, suc, subst, ◌+◌, ◌-◌, ◌<◌, ◌≤◌, List, length, take, drop, slice_index, sym, ◌∙◌, arith, eq-eqb, length-drop, eqb-true, get_or-drop, get_or-take, length-take-le, IsTrie, Nowhere, Passes, is_byte}

-- a byte that a search of a part doesn't find is at no place of it
pub not_between : (bytes : List ℕ) {b : ℕ} (i j : ℕ) → i ≤ j → j ≤ length bytes → Nowhere (Passes (is_byte b) (take (j - i) (drop i bytes))) 0 (length (take (j - i) (drop i bytes)))
    → (m : ℕ) → i ≤ m → m < j → slice_index bytes m ≡ b → ⊥
not_between bytes {b} i j low high none m le lt is =
    let long = length-take-le (j - i) (drop i bytes) (omega (arith, length-drop i bytes)) in
    let place : i + (m - i) ≡ m = omega arith in
    let there : slice_index (take (j - i) (drop i bytes)) (m - i) ≡ b = cc (get_or-take (j - i) (drop i bytes) (m - i) 0 (omega arith), get_or-drop i bytes (m - i) 0) in
    none (m - i) (omega arith) (omega arith) (eq-eqb _ b there)

-- the children of a later node end later
ascends_by : {first bytes : List ℕ} → IsTrie first bytes → (i more : ℕ) → i + more < length bytes → slice_index first (i + 1) ≤ slice_index first (i + more + 1)
ascends_by t i zero lt = let same : i + zero + 1 ≡ i + 1 = omega arith in rw same (omega arith)
ascends_by {first} {bytes} t i (suc more) lt =
    let below = ascends_by t i more (omega arith) in
    let next = t.ordered (i + more + 1) (omega arith) in
    let same : i + suc more + 1 ≡ i + more + 1 + 1 = omega arith in
    rw same (omega arith)

pub ascends : {first bytes : List ℕ} → IsTrie first bytes → (i j : ℕ) → i ≤ j → j < length bytes → slice_index first (i + 1) ≤ slice_index first (j + 1)
ascends {first} t i j le lt =
    let at : i + (j - i) ≡ j = omega arith in
    subst (λ n. slice_index first (i + 1) ≤ slice_index first (n + 1)) at (ascends_by t i _ (omega arith))

-- a byte that a search of a part finds is at its place
pub found_between : (bytes : List ℕ) (i j b k : ℕ) → i ≤ j → j ≤ length bytes → k < length (take (j - i) (drop i bytes)) → Passes (is_byte b) (take (j - i) (drop i bytes)) k
    → (i + k < j) × (slice_index bytes (i + k) ≡ b)
found_between bytes i j b k low high below passes =
    let long = length-take-le (j - i) (drop i bytes) (omega (arith, length-drop i bytes)) in
    let inside : k < j - i = omega arith in (
      omega arith,
      sym (get_or-take (j - i) (drop i bytes) k 0 inside ∙ get_or-drop i bytes k 0) ∙ eqb-true _ b passes,
    )
