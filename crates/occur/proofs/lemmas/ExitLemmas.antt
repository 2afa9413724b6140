-- The bytes of a message about the script, written as a row, and that no reply waits.
use Rattle.{occur.proofs.Prelude.{◌≡◌, ℕ, ◌+◌, [], ◌∷◌, ◌++◌, length, Option, None, Some, Result, codes, refl, arith, sym, ap, ◌∙◌, append_assoc, append-nil, subst, colon, head, output_line, Writes, newline, cannot_open}, grep_cmd.specs.Bytes.Text}

-- `occur: ` is the margin, the script's name the name, and the rest the text
message_row-is : (name text : Text) → output_line (codes "occur: ") (head colon (Some name) None ++ text) ≡ output_line [] (codes "occur: " ++ name ++ (colon ∷ text))
message_row-is name text =
    ap (λ l. codes "occur: " ++ l ++ newline ∷ []) (ap (λ l. l ++ text) (append-nil (name ++ colon ∷ [])) ∙ append_assoc name (colon ∷ []) text)
    ∙ ap (λ l. l ++ newline ∷ []) (sym (append_assoc (codes "occur: ") name (colon ∷ text)))

pub writes_cannot_open : {W T E : Type 0} (contents : W → Option Text) (failures : W → ℕ) (a b : W) (name : Text) (r : Result T E)
    → Writes contents failures a b (output_line (codes "occur: ") (head colon (Some name) None ++ codes " cannot open")) r
    → Writes contents failures a b (output_line [] (cannot_open name)) r
writes_cannot_open contents failures a b name r w = subst (λ bytes. Writes contents failures a b bytes r) (message_row-is name (codes " cannot open")) w

-- no byte waits, neither in the buffer nor in the device
pub all_sent : (bytes : Text) (n : ℕ) → length bytes + n ≡ 0 → (bytes ≡ []) × (n ≡ 0)
all_sent [] n none = (refl, omega (arith, none))
all_sent (b ∷ bytes) n none = absurd (omega (arith, none))
