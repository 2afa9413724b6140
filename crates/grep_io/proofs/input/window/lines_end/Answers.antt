use Rattle.grep_io.proofs.lemmas.SentLemmas.{no_row_ends, rows_end_after}
use Rattle.grep_io.proofs.input.window.lines_end.Goals as goal

pub returns-in-Some-clause-cut_off : goal.returns-in-Some-clause-cut_off
returns-in-Some-clause-cut_off c = (rows_end_after _ c.in-Some.at c.in-Some.ensures.0 c.in-Some.ensures.1).none_after

pub returns-in-None-clause-cut_off : goal.returns-in-None-clause-cut_off
returns-in-None-clause-cut_off c = no_row_ends c.args.bytes.now c.in-None.ensures
