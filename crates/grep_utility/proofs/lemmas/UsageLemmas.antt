-- What is reported after a fault of words.
use Rattle.grep_utility.{proofs.Prelude.{◌≡◌, ◌≢◌, [], ◌∷◌, refl, UsageFault, UnknownOption, MissingArgument, BadNumber, TwoSyntaxes, NoPattern, usage, usage_after}, specs.declared.words.UsageFault.TheVariants.Memory}

-- a fault other than out of memory is followed by how the command is used
pub usage_after-other : (f : UsageFault) → f ≢ Memory → usage_after f ≡ usage ∷ []
usage_after-other Memory other = absurd (other refl)
usage_after-other (UnknownOption c) other = refl
usage_after-other (MissingArgument c) other = refl
usage_after-other (BadNumber c) other = refl
usage_after-other TwoSyntaxes other = refl
usage_after-other NoPattern other = refl
