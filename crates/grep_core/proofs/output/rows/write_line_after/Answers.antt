use Rattle.grep_core.proofs.lemmas.{RowLemmas.writes_no_more, WrittenLemmas.{stops_in_margin, writes_after_margin}}
use Rattle.grep_core.proofs.output.rows.write_line_after.Goals as goal

pub returns : goal.returns
returns g c = writes_after_margin _ _ _ _ _ _ _ _ c.in_ok-push_all.ensures c.write_line.ensures

pub returns-in_err-push_all : goal.returns-in_err-push_all
returns-in_err-push_all g c = writes_no_more _ _ _ _ _ _ c.from_residual.ensures.0 (stops_in_margin _ _ _ _ _ _ c.in_err-push_all.ensures)
