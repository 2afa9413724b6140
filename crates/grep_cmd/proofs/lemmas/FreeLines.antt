-- No line that was handed out has a newline.
use Rattle.{grep_cmd.proofs.Prelude.{ℕ, List, [], ◌∷◌, ◌++◌, All, Option, All-head, All-tail, Text, HasNoNewline, Stage, Open, Ended, Failed, AreHanded, Numbered, HasHanded}, re_syntax.proofs.lemmas.LinesLaws.AreLines-lines_of}

free_lines : (stage : Stage) (given : Text) (handed : List Text) → AreHanded stage given handed → All HasNoNewline handed
free_lines Open given handed h = h.1
free_lines Ended given handed h = rw h at (AreLines-lines_of given).0
free_lines Failed given handed h = absurd h

last_is_free : (before : List Text) (line : Text) → All HasNoNewline (before ++ line ∷ []) → HasNoNewline line
last_is_free [] line all = All-head HasNoNewline line [] all
last_is_free (t ∷ before) line all = last_is_free before line (All-tail HasNoNewline t (before ++ line ∷ []) all)

-- the line that was handed out last
pub free_line : {R : Type 0} (remaining : R → Option Text) (failures : R → ℕ) (reader : R) (before : List Text) (line : Text) (now : Numbered R) → HasHanded remaining failures reader now (before ++ line ∷ []) → HasNoNewline line
free_line remaining failures reader before line now h = last_is_free _ _ (free_lines now.lines.stage _ _ h.hands.are_handed)
