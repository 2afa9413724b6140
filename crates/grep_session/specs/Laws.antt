-- Laws of the definitions.
use Rattle.std.specs.Prelude.{◌≡◌, Ok, ℕ, Err, Result}
use Rattle.{grep_core.specs.Files.Inputs, grep_session.specs.{Touched.Costs, Edits.{Edit, Applies}}}
use Rattle.grep_session.specs.declared.fault.EditFault.{EditFault, TheVariants.Pattern}

-- two refusals are the same, or differ in what is reported of the same pattern
abbrev pub AreAlikeFaults : EditFault → EditFault → Type 0
AreAlikeFaults (Pattern i f) (Pattern j g) = i ≡ j
AreAlikeFaults a b = a ≡ b

-- two outcomes are the same new inputs, or alike refusals
abbrev pub AreAlike : Result Inputs EditFault → Result Inputs EditFault → Type 0
AreAlike (Ok a) (Ok b) = a ≡ b
AreAlike (Ok a) (Err g) = ⊥
AreAlike (Err f) (Ok b) = ⊥
AreAlike (Err f) (Err g) = AreAlikeFaults f g

-- an edit has one outcome for its inputs, up to alike refusals, and one cost
pub record HasOneOutcome (edit : Edit) (old : Inputs) : Type 0 where
  pub one_outcome : (a b : Result Inputs EditFault) → Applies edit old a → Applies edit old b →
      AreAlike a b
  pub one_cost : (a b : ℕ) → Costs edit old a → Costs edit old b → a ≡ b

abbrev pub EditsAreDetermined : Type 0
EditsAreDetermined = (edit : Edit) (old : Inputs) → HasOneOutcome edit old
