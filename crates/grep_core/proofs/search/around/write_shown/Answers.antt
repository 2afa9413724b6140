use Rattle.grep_core.proofs.lemmas.{OneLineLemmas.is_err, WaitingRows.{holds_too, stops_between, stops_waiting, row_last}}
use Rattle.grep_core.proofs.search.around.write_shown.Goals as goal

pub returns-in_err-write_separator : goal.returns-in_err-write_separator
returns-in_err-write_separator g c =
    rw (is_err _ c.from_residual.ensures.1)
    (stops_between _ _ _ _ _ _ c.in_err-write_separator.ensures)

pub returns-in_err-write_waiting : goal.returns-in_err-write_waiting
returns-in_err-write_waiting g c =
    rw (is_err _ c.from_residual-in_err-write_waiting.ensures.1)
    (stops_waiting _ _ _ _ _ (holds_too _ c.if-not-shown.false) c.in_ok-write_separator.ensures c.in_err-write_waiting.ensures)

pub returns : goal.returns
returns g c =
    row_last _ _ _ _ _ (holds_too _ c.if-not-shown.false) _ _
    c.in_ok-write_separator.ensures c.in_ok-write_waiting.ensures c.write_shown.ensures
