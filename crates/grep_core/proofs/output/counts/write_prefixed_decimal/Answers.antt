use Rattle.grep_core.proofs.lemmas.RowLemmas.{stops_early, writes_last, writes_no_more}
use Rattle.grep_core.proofs.output.counts.write_prefixed_decimal.Goals as goal

pub returns : goal.returns
returns g c = writes_last _ _ _ _ _ _ _ _ c.in_ok-write_prefix.ensures c.write_decimal_line.ensures

pub returns-in_err-write_prefix : goal.returns-in_err-write_prefix
returns-in_err-write_prefix g c = writes_no_more _ _ _ _ _ _ c.from_residual.ensures.0 (stops_early _ _ _ _ _ _ c.in_err-write_prefix.ensures)
