use Rattle.re_syntax.{proofs.{Prelude.{◌∙◌, err_from_is_err_and}, lemmas.{BracketFaultsReading.{fault_as, list_fault}, BracketLists.{goes_on-first, goes_on-next, goes_on-last, element-shortens}}}, specs.BracketFaults.here}
use Rattle.re_syntax.proofs.bracket.read_list.Goals as goal

pub returns-in_err-set-clause-refused : goal.returns-in_err-set-clause-refused
returns-in_err-set-clause-refused c =
    let p = err_from_is_err_and c.from_residual.result c.from_residual.ensures.1 in
    rw (p.1, p.2) (fault_as c.in_err-set.ensures.refused (λ kind from f. here f))

pub loop-place-init : goal.loop-place-init
loop-place-init c = record { same_text = c.in_ok-set.ensures.same_text; goes_on = goes_on-first c.in_ok-set.ensures.read }

pub returns-in_err-bytes-clause-refused : goal.returns-in_err-bytes-clause-refused
returns-in_err-bytes-clause-refused c =
    let p = err_from_is_err_and c.from_residual-in_err-bytes.result c.from_residual-in_err-bytes.ensures.1 in
    let refused = rw c.loop-place-test.ensures.else_same at c.in_err-bytes.ensures.refused in
    rw (p.1, p.2) (list_fault c.args.opening c.args.cursor.now c.loop-place.cursor c.loop-place.place c.loop-place.invariant.same_text c.loop-place.invariant.goes_on.fault refused)

pub loop-place-smaller : goal.loop-place-smaller
loop-place-smaller c = element-shortens (rw c.loop-place-test.ensures.else_same at c.in_ok-bytes.ensures.read)

pub loop-place-preserved : goal.loop-place-preserved
loop-place-preserved c = record {
  same_text = cc (c.in_ok-bytes.ensures.same_text, c.loop-place-test.ensures.else_same, c.loop-place.invariant.same_text);
  goes_on = rw c.union-set.ensures
      (goes_on-next c.loop-place.invariant.goes_on (rw c.loop-place-test.ensures.else_same at c.in_ok-bytes.ensures.read));
}

pub returns-clause-read : goal.returns-clause-read
returns-clause-read c = goes_on-last c.loop-place.invariant.goes_on c.loop-place-test.ensures.skipped.passed

pub read_element-requires-in-loop-place-clause-opened : goal.read_element-requires-in-loop-place-clause-opened
read_element-requires-in-loop-place-clause-opened c =
    rw (c.loop-place-test.ensures.else_same, c.loop-place.invariant.same_text) c.requires.opened

pub read_element-requires-in-loop-place-clause-goes_on : goal.read_element-requires-in-loop-place-clause-goes_on
read_element-requires-in-loop-place-clause-goes_on c =
    rw c.loop-place-test.ensures.else_same
    (record { bracket = λ b. absurd (c.loop-place-test.ensures.skipped b); hyphen = c.loop-place.invariant.goes_on.hyphen })

pub returns-clause-same_text : goal.returns-clause-same_text
returns-clause-same_text c = c.loop-place-test.ensures.skipped.same_text ∙ c.loop-place.invariant.same_text
