-- An output line that is written part by part.
use Rattle.grep_core.proofs.Prelude.{◌≡◌, ℕ, [], ◌∷◌, ◌++◌, Option, Result, sym, ap, ◌∙◌, append_assoc, Text, newline, GoesOut, Writes, output_line}
pub use Rattle.grep_io.proofs.lemmas.WriteLemmas.{goes_nowhere, goes_on, stops_early, stops_later, writes_no_more, writes_last, writes_then_nothing}

-- the parts of an output line, grouped to the right
output_line-parts : (margin front text : Text) → margin ++ (front ++ (text ++ newline ∷ [])) ≡ output_line margin (front ++ text)
output_line-parts margin front text =
    ap (λ l. margin ++ l) (sym (append_assoc front text (newline ∷ []))) ∙ sym (append_assoc margin (front ++ text) (newline ∷ []))

module _ {W : Type 0} (contents : W → Option Text) (failures : W → ℕ) where
  -- the margin, and then the rest of an output line
  pub writes_row : {T E : Type 0} (a b c : W) (margin front text : Text) (r : Result T E) → GoesOut contents failures a b margin
      → Writes contents failures b c (front ++ (text ++ newline ∷ [])) r → Writes contents failures a c (output_line margin (front ++ text)) r
  writes_row a b c margin front text r p q =
      rw (output_line-parts _ _ _) at (writes_last contents failures a b c margin (front ++ (text ++ newline ∷ [])) r p q)

pub ruleset writing = (goes_nowhere, goes_on, stops_early, stops_later, writes_last, writes_row)
