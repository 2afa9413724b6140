-- Braces that begin no interval of an extended expression.
use Rattle.re_syntax.proofs.{Prelude.{◌≡◌, Bool, true, false, nat_eq, [], ◌∷◌, codes, refl, Digit, Text, in_class, HasNoInterval}, lemmas.{IntervalLaws.{lacks, lacks-cut}, IntervalReading.{none_without_number, none_after_first, no_greatest}}}

abbrev pub begins_with_digit : Text → Bool
begins_with_digit [] = false
begins_with_digit (b ∷ t) = in_class Digit b

abbrev pub begins_with_comma : Text → Bool
begins_with_comma [] = false
begins_with_comma (b ∷ t) = nat_eq b 44

-- neither a digit nor a comma follows the brace
pub not_number_first : {t : Text} → begins_with_digit t ≡ false → begins_with_comma t ≡ false → HasNoInterval (codes "}") t
not_number_first {t} h k =
    none_without_number {close = (codes "}")} t (λ b u e d. let f : begins_with_digit (b ∷ u) ≡ false = rw e at h in cc)
    (λ c. let f : begins_with_comma (44 ∷ c.0) ≡ false = rw c.1 at k in cc)

-- a comma follows the brace, and no digit follows the comma
pub no_number_after : (t : Text) → begins_with_digit t ≡ false → HasNoInterval (codes "}") (44 ∷ t)
no_number_after t h =
    none_after_first refl (no_greatest (λ b u e d. let f : begins_with_digit (b ∷ u) ≡ false = rw e at h in cc))

-- no brace closes what follows it
pub no_closing : {t : Text} → lacks 125 t ≡ true → HasNoInterval (codes "}") t
no_closing {t} h = record { none = λ u least most it. lacks-cut 125 t it.inside u h it.whole }
