-- What is shown is the output, the messages and the status, one after another.
use Rattle.{grep_cmd.proofs.Prelude.{◌≡◌, ℕ, List, [], ◌∷◌, ◌++◌, codes, Option, Result, refl, ◌∙◌, append-nil, IsErr, Text, Status, Inputs, written, output_line, GoesOut, StopsWithin, Writes, GrepGives, ReportsAllInputs, status_line, with_margin, Shows}, grep_core.proofs.lemmas.{RowLemmas.{stops_early, stops_later, writes_last}, WriterLaws.written-append}, grep_session.proofs.lemmas.{HeadlineLaws.one_report, Writing.writes_err}}

-- a margin is as good as a beginning of each line
with_margin-written : (margin : Text) (text : List Text) → written [] (with_margin margin text) ≡ written margin text
with_margin-written margin [] = refl
with_margin-written margin (line ∷ text) = rw (with_margin-written margin text)

abbrev shown_of : List Text → List Text → Status → List Text
shown_of out reported status = with_margin (codes "o ") out ++ (with_margin (codes "e ") reported ++ status_line status ∷ [])

-- the bytes of what is shown
shown_bytes : (out reported : List Text) (status : Status) → written [] (shown_of out reported status) ≡ written (codes "o ") out ++ (written (codes "e ") reported ++ output_line [] (status_line status))
shown_bytes out reported status =
    let line = append-nil (output_line [] (status_line status)) in
    let rest : written [] (with_margin (codes "e ") reported ++ status_line status ∷ []) ≡ written (codes "e ") reported ++ output_line [] (status_line status) =
    written-append [] (with_margin (codes "e ") reported) (status_line status ∷ []) ∙ (λ i. with_margin-written (codes "e ") reported i ++ line i) in
    written-append [] (with_margin (codes "o ") out) (with_margin (codes "e ") reported ++ status_line status ∷ []) ∙ (λ i. with_margin-written (codes "o ") out i ++ rest i)

module _ {W : Type 0} (contents : W → Option Text) (failures : W → ℕ) (inputs : Inputs) (grep : GrepGives inputs) where
  -- what was written of the lines that are shown
  shows_with : {T E : Type 0} (a d : W) (r : Result T E) → Writes contents failures a d (written (codes "o ") grep.out ++ (written (codes "e ") grep.reported ++ output_line [] (status_line grep.status))) r → Shows contents failures inputs a d r
  shows_with a d r w = (
    shown_of grep.out grep.reported grep.status,
    record { grep = grep; is = refl },
    rw (shown_bytes _ _ _) w,
  )

  -- the messages that were written are those that are shown
  pub says_same : {T E : Type 0} (b c : W) (r : Result T E) → ReportsAllInputs contents failures inputs (codes "e ") b c r → Writes contents failures b c (written (codes "e ") grep.reported) r
  says_same b c r m = rw (one_report inputs grep m.grep).1 at m.wrote

  -- a write failed within the output
  pub shows_front : {T E : Type 0} (a b : W) (r : Result T E) → IsErr r → StopsWithin contents failures a b (written (codes "o ") grep.out) → Shows contents failures inputs a b r
  shows_front a b r is s =
      shows_with a b r (writes_err contents failures [] a b _ r is (stops_early contents failures a b (written (codes "o ") grep.out) (written (codes "e ") grep.reported ++ output_line [] (status_line grep.status)) s))

  module _ (a b : W) (went : GoesOut contents failures a b (written (codes "o ") grep.out)) where
    -- a write failed within the messages
    pub shows_middle : {T E : Type 0} (c : W) (r : Result T E) → IsErr r → StopsWithin contents failures b c (written (codes "e ") grep.reported) → Shows contents failures inputs a c r
    shows_middle c r is s =
        shows_with a c r
        (writes_err contents failures [] a c _ r is (stops_later contents failures a b c (written (codes "o ") grep.out) (written (codes "e ") grep.reported ++ output_line [] (status_line grep.status)) went
        (stops_early contents failures b c (written (codes "e ") grep.reported) (output_line [] (status_line grep.status)) s)))

    -- output and messages were written, and the status as the last call returns
    pub shows_all : {T E : Type 0} (c d : W) (r : Result T E) → GoesOut contents failures b c (written (codes "e ") grep.reported) → Writes contents failures c d (output_line [] (status_line grep.status)) r → Shows contents failures inputs a d r
    shows_all c d r g w =
        shows_with a d r
        (writes_last contents failures a b d (written (codes "o ") grep.out) (written (codes "e ") grep.reported ++ output_line [] (status_line grep.status)) r went
        (writes_last contents failures b c d (written (codes "e ") grep.reported) (output_line [] (status_line grep.status)) r g w))
