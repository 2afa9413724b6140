-- What is reported, whether or not a write fails.
use Rattle.{grep_utility.proofs.Prelude.{◌≡◌, ℕ, List, [], ◌∷◌, ◌++◌, Option, Result, Ok, Err, inl, inr, refl, sym, ap, ◌∙◌, append_assoc, Text, Steps, written, output_line, Writer, writer, Writes, ReportsLines, GivesUp}, grep_core.proofs.lemmas.PassLemmas.{TakesAll-line, TakesFront-line}}

module _ {W : Type 0} (contents : W → Option Text) (failures : W → ℕ) (old new : W) where
  -- one line
  pub reports_line : {T E : Type 0} (text : Text) (r : Result T E) → Writes contents failures old new (output_line [] text) r → ReportsLines (writer contents failures old) (writer contents failures new) (text ∷ [])
  reports_line text (Ok done) h = inl (TakesAll-line contents failures old new text h)
  reports_line text (Err fault) h = inr (TakesFront-line contents failures old new text h, h.counted)

  -- some lines
  pub reports_lines : {T E : Type 0} (texts : List Text) (r : Result T E) → Writes contents failures old new (written [] texts) r → ReportsLines (writer contents failures old) (writer contents failures new) texts
  reports_lines texts (Ok done) h = inl (record { written_all = h.written; none_failed = h.none_failed })
  reports_lines texts (Err fault) h = inr (record { front = h.front; rest = h.rest; cut = h.cut; written_front = h.written }, h.counted)

-- a command that gives up writes its messages and ends with status 2
pub gives_up : (out old new : Writer) (n : ℕ) (steps : Steps) (texts : List Text) (status : ℕ) → status ≡ 2 → ReportsLines old new texts
    → GivesUp (record { out = out; messages = old; source_failures = n; steps = steps }) (record { out = out; messages = new; source_failures = n; steps = steps }) texts 0 status
gives_up out old new n steps texts status is_error reported = record { is_error = is_error; none_written = refl; reported = reported; counted = refl; no_step = refl }

-- the pieces of a line, one after the other
pub line_of_tokens : (front kind_front kind at place end : Text) → (front ++ (kind_front ++ kind)) ++ ((at ++ place) ++ end) ≡ ((((front ++ kind_front) ++ kind) ++ at) ++ place) ++ end
line_of_tokens front kind_front kind at place end =
    let all = (front ++ kind_front) ++ kind in
    ap (λ l. l ++ ((at ++ place) ++ end)) (sym (append_assoc front kind_front kind)) ∙ sym (append_assoc all (at ++ place) end) ∙ ap (λ l. l ++ end) (sym (append_assoc all at place))
