use Rattle.grep_core.proofs.lemmas.RowLemmas.{stops_early, writes_last, writes_no_more}
use Rattle.grep_core.proofs.output.counts.write_decimal_line.Goals as goal

pub returns : goal.returns
returns g c = writes_last _ _ _ _ _ _ _ _ c.in_ok-write_decimal.ensures c.push_all.ensures

pub returns-in_err-write_decimal : goal.returns-in_err-write_decimal
returns-in_err-write_decimal g c = writes_no_more _ _ _ _ _ _ c.from_residual.ensures.0 (stops_early _ _ _ _ _ _ c.in_err-write_decimal.ensures)
