-- Where a line is among stretches.
use Rattle.line_marks.proofs.Prelude.{◌≡◌, ℕ, ◌+◌, ◌-◌, ◌<◌, ◌≤◌, List, [], ◌∷◌, ◌++◌, length, take, drop, get_or, refl, ◌∙◌, arith, drop_more, take_more, Stretch, IsReached, Passes}

passes_one : (front : List Stretch) (s : Stretch) (place rest later : ℕ) → Passes front place rest → rest ≡ s.kept + s.added + later → 1 ≤ later → Passes (front ++ s ∷ []) place later
passes_one [] s _ _ later passes is some = (later, passes ∙ is, some, refl)
passes_one (f ∷ front) s _ rest later passes is some = (passes.0, passes.1, passes.2, passes_one front s passes.0 rest later passes.3 is some)

pub passes_more : (stretches : List Stretch) (k place rest later : ℕ) (d : Stretch) → k < length stretches → Passes (take k stretches) place rest → later ≡ rest - ((get_or stretches k d).kept + (get_or stretches k d).added) → (later ≡ 0 → ⊥) → Passes (take (k + 1) stretches) place later
passes_more stretches k place rest later d less passes left some =
    rw (take_more stretches k d less) (passes_one (take k stretches) (get_or stretches k d) place rest later passes (omega arith) (omega arith))

pub reached_at : (stretches : List Stretch) {later : ℕ} (k rest : ℕ) (d : Stretch) → k < length stretches → later ≡ rest - ((get_or stretches k d).kept + (get_or stretches k d).added) → later ≡ 0 → IsReached rest (drop k stretches)
reached_at stretches k rest d less left none = rw (drop_more stretches k d less) (omega arith)
