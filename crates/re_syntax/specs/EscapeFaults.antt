-- Why a backslash begins no escape (XBD 9.3.3, 9.4.3), with the fault's kind, and the text from its
-- place on. Beside letters and digits, each syntax has its own bytes that may not follow it.
use Rattle.std.specs.Prelude.{ℕ, ◌∷◌, ◌++◌, IsTrue, codes}
use Rattle.re_syntax.specs.declared.fault.FaultKind.TheVariants.{TrailingBackslash, UndefinedEscape}
use Rattle.re_syntax.specs.declared.fault.FaultKind.{TheVariants.BackReference, FaultKind}
use Rattle.{re_syntax.specs.Escapes.is_undefined, re_trees.specs.Bytes.{Text, Bytes, range}}

-- the digits 1 to 9, which would refer back to a group
abbrev pub one_to_nine : Bytes
one_to_nine = range 49 57

pub data EscapeFault (others : Text) : Text → FaultKind → Text → Type 0 where
  trailing : EscapeFault others (codes "\\") TrailingBackslash (codes "\\")
  undefined : {u : Text} {b : ℕ} → IsTrue (is_undefined others b) → ¬ IsTrue (one_to_nine b) →
      EscapeFault others (codes "\\" ++ b ∷ u) UndefinedEscape (codes "\\" ++ b ∷ u)
  reference : {u : Text} {b : ℕ} → IsTrue (one_to_nine b) →
      EscapeFault others (codes "\\" ++ b ∷ u) BackReference (codes "\\" ++ b ∷ u)
