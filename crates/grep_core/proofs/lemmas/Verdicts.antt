-- The chosen elements, from a list of verdicts.
use Rattle.grep_core.proofs.Prelude.{Bool, true, false, List, [], ◌∷◌, refl, Decides, if◌then◌else◌, false≢true}

-- the verdict on what holds
pub decided_yes : {P : Type 0} → P → Decides true P
decided_yes p = ((λ _. p), (λ _. refl))

-- the verdict on what does not hold
pub decided_no : {P : Type 0} → (P → ⊥) → Decides false P
decided_no n = ((λ e. absurd (false≢true e)), (λ p. absurd (n p)))

-- the element, if the verdict is true
abbrev pub picked : {A : Type 0} → Bool → A → List A
picked verdict x = if verdict then x ∷ [] else []
