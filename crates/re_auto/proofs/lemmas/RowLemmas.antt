-- Rows of tables while they are written.
use Rattle.re_auto.proofs.Prelude.{◌≡◌, ℕ, ◌+◌, ◌*◌, ◌<◌, ◌≤◌, Bytes, IsTrue, ap, nothing, without, ◌⊎◌, ◌↔◌, arith}

-- a row before the last has its words within the table
pub row_within : (p rows width : ℕ) → p < rows → p * width + width ≤ rows * width
row_within p rows width lt = grind arith

-- one byte of a set is taken out of it and marked
pub marked : {A B Q : Type 0} (old new : Bytes) (c x : ℕ) → IsTrue (old c) → new ≡ without old c → (B ↔ (A ⊎ (x ≡ c) × Q)) → (B ⊎ IsTrue (new x) × Q) ↔ (A ⊎ IsTrue (old x) × Q)
marked old new c x held left step = grind (arith, ap (λ f. f x) left)

-- all are, once none is left
pub all_marked : {B C Q : Type 0} (left : Bytes) (x : ℕ) → left ≡ nothing → ((B ⊎ IsTrue (left x) × Q) ↔ C) → B ↔ C
all_marked left x none all = grind (arith, ap (λ f. f x) none)

-- the rows of the members of a set: one of them, and all of them
pub one_row : {A B : Type 0} {S : ℕ → Type 0} {Q : Type 0} {x : ℕ} → (B ↔ (A ⊎ ((p : ℕ) × S p × ((x ≡ p) × Q)))) → B ↔ (A ⊎ S x × Q)
one_row all = grind arith
