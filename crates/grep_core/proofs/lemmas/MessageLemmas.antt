-- The bytes of a message, written as a row.
use Rattle.grep_core.proofs.Prelude.{◌≡◌, ℕ, [], ◌∷◌, ◌++◌, Option, None, Some, Result, codes, sym, ap, ◌∙◌, append_assoc, append-nil, Text, newline, colon, head, output_line, Writes, cannot_open, read_error}

-- a message of `grep: `, the file's name, a colon and some text
abbrev message_row : Text → Text → Text
message_row name text = output_line (codes "grep: ") (head colon (Some name) None ++ text)

-- `grep: ` is the margin, the file's name the name, and the rest the text
message_row-is : (name text : Text) → message_row name text ≡ output_line [] (codes "grep: " ++ name ++ (colon ∷ text))
message_row-is name text =
    ap (λ l. codes "grep: " ++ l ++ newline ∷ []) (ap (λ l. l ++ text) (append-nil (name ++ colon ∷ [])) ∙ append_assoc name (colon ∷ []) text)
    ∙ ap (λ l. l ++ newline ∷ []) (sym (append_assoc (codes "grep: ") name (colon ∷ text)))

module _ {W : Type 0} (contents : W → Option Text) (failures : W → ℕ) {T E : Type 0} (a b : W) (name : Text) (r : Result T E) where
  pub writes_read_error : Writes contents failures a b (output_line (codes "grep: ") (head colon (Some name) None ++ codes " read error")) r → Writes contents failures a b (output_line [] (read_error name)) r
  writes_read_error w = rw (message_row-is _ _) at w

  pub writes_cannot_open : Writes contents failures a b (output_line (codes "grep: ") (head colon (Some name) None ++ codes " cannot open")) r → Writes contents failures a b (output_line [] (cannot_open name)) r
  writes_cannot_open w = rw (message_row-is _ _) at w
