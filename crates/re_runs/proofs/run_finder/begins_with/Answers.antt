use Rattle.re_runs.proofs.{Prelude.{◌≡◌, ◌+◌, arith, false≢true, refl}, lemmas.RunLaws.{run_text, text_run}}
use Rattle.re_runs.proofs.run_finder.begins_with.Goals as goal

pub returns : goal.returns
returns c = (λ _. text_run _ _ 0 (record { fits = omega arith; reads = λ j inside. let at : 0 + j ≡ j = omega arith in rw at (c.bytes.invariant j (omega arith)) }), λ _. refl)

pub returns-then-line-text : goal.returns-then-line-text
returns-then-line-text c = (λ no. absurd (false≢true no), λ o. absurd (let fits = (run_text _ _ 0 o).fits in omega arith))

pub returns-then-line-place : goal.returns-then-line-place
returns-then-line-place c =
    let at : 0 + c.bytes.place ≡ c.bytes.place = omega arith in
    (λ no. absurd (false≢true no), λ o. absurd (c.if-line-place.true (rw at at ((run_text _ _ 0 o).reads c.bytes.place (omega arith)))))
